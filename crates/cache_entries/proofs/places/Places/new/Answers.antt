use Rattle.cache_entries.proofs.Names.{[], None, arith, replicate, keys_of, non_zero_usize_get, vec_len, filled}
use Rattle.cache_entries.proofs.Spreads.{Spreads, none_placed}
use Rattle.cache_entries.proofs.places.Places.new.Goals as goal

empty : (c : goal.In_ok-resize-2) → Spreads (keys_of c.in_ok-order.order.entries) c.resize.new.self.items c.resize-2.new.self.items 0
    (record { numbers = []; places = replicate c.args.count None; most = non_zero_usize_get c.args.most })
empty c =
    let fresh = c.new-places.result in
    none_placed (keys_of c.in_ok-order.order.entries) c.resize.new.self.items c.resize-2.new.self.items (non_zero_usize_get c.args.most)
    c.args.count
    (omega (arith, c.get.ensures.nonzero, c.get.ensures.value)) c.in_ok-order.ensures
    (omega (arith, c.in_ok-resize.ensures.len, c.resize.new.self.ok.0, c.get.ensures.value))
    (filled c.args.count (non_zero_usize_get c.args.most) (vec_len fresh) fresh.items c.resize-2.new.self.items
    (rw c.get-2.ensures.value at c.in_ok-resize-2.ensures.items) c.new-places.ensures.items c.new-places.ensures.len)

pub invariant_of-result : goal.invariant_of-result
invariant_of-result c = (empty c).are

pub returns : goal.returns
returns c = (empty c).view
