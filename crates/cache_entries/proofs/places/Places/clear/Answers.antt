use Rattle.cache_entries.proofs.Names.{nat_tests, ℕ, replicate, arith, ap, keys_of, length, length-map, OrderState}
use Rattle.std.proofs.Common.{◌≡◌, ◌∙◌}
use Rattle.cache_entries.proofs.Spreads.{none_placed}
use Rattle.cache_entries.proofs.places.Places.clear.Goals as goal

pub returns : goal.returns
returns c =
    let i = c.self.inside in
    let most = length i.numbers.items in
    let view = c.self.view_is in
    let count : length i.places.items ≡ length c.args.self.now.places = grind (arith, nat_tests, length-map) in
    let most_is : most ≡ c.args.self.now.most = ap (λ (o : OrderState). o.most) view in
    let len : c.len-most.result ≡ most = c.len-most.ensures ∙ i.numbers.ok.0 in
    rw (← most_is) (none_placed (keys_of c.restore_order.new.order.entries) i.numbers.items c.fill.new.self.items most
    (length c.args.self.now.places)
    c.self.invariant.some (c.restore_order.ensures most c.self.invariant.filled) (omega arith)
    (c.fill.ensures.items (λ y is. is) ∙ ap (λ (k : ℕ). replicate k c.len-most.result) (i.places.ok.0 ∙ count)
    ∙ ap (replicate (length c.args.self.now.places)) len)).view
