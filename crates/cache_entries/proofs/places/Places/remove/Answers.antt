use Rattle.cache_entries.proofs.Names.{None, set, ℕ, [], ap, arith, is_member, keys_of, without, LruCache}
use Rattle.std.proofs.Common.{◌∷◌, ◌++◌, ◌-◌, ◌∙◌}
use Rattle.cache_entries.proofs.Orders.{demoted_keys}
use Rattle.cache_entries.proofs.Spreads.{Spreads, count_some, known_place, listed, removed, some_place}
use Rattle.cache_entries.proofs.places.Places.remove.Goals as goal

after : (c : goal.After-self-2-1) → Spreads (keys_of c.demote.new.self.entries) c.self.inside.numbers.items
    (set c.self.inside.places.items c.args.number c.len.result) (c.self.inside.count - 1) (record {
      numbers = without c.args.number c.args.self.now.numbers;
      places = set c.args.self.now.places c.args.number None;
      most = c.args.self.now.most;
    })
after c =
    let below = some_place c.self.invariant c.self.view_is c.args.number c.requires in
    let p = c.index.result.now in
    let keys = keys_of c.self.inside.order.entries in
    let same = known_place c.self.invariant c.args.number below p c.index.ensures in
    rw (c.len.ensures ∙ c.self.inside.numbers.ok.0) (removed c.self.invariant c.args.number below c.self.view_is
    (keys_of c.demote.new.self.entries)
    (c.self.inside.count - 1) (ap (λ (l : LruCache ℕ (Unit {0})). keys_of l.entries) c.demote.ensures.entries
    ∙ demoted_keys p c.self.inside.order.entries
    (ap (is_member keys) same ∙ listed c.self.invariant c.args.number below) ∙ ap (λ (q : ℕ). without q keys ++ q ∷ []) same)
    (omega (arith, count_some c.self.invariant c.args.number below)))

pub invariant_of-self : goal.invariant_of-self
invariant_of-self c = (after c).are

pub returns : goal.returns
returns c = (after c).view
