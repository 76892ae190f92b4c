use Rattle.description.proofs.Names.{length, get_or, refl, arith, common_steps, items_view}
use Rattle.std.proofs.Common.{◌≡◌, ◌<◌}
use Rattle.description.proofs.Elements.{one_more}
use Rattle.description.proofs.FirstFlaws.{first_item}
use Rattle.description.proofs.list.entries_of.Goals as goal

pub returns-in-None-from_value : goal.returns-in-None-from_value
returns-in-None-from_value g c =
    let P = g.T.FromValue.IsSaid in
    let vs = c.in-Some.items.now.items in
    let v = c.index.result.now in
    let within : c.loop-i.i < length vs = grind (arith, common_steps) in
    let at : get_or vs c.loop-i.i v ≡ v = grind (arith, common_steps) in
    let first = first_item (λ e. (x : g.row.T.Denot) × P e x) (λ e. (x : g.row.T.Denot) × P e x → ⊥) P (λ e x so. (x, so)) vs c.loop-i.i
    c.loop-i.list.items v within at c.loop-i.invariant (λ x. c.in-None-from_value.ensures x.0 x.1) in
    rw c.bad_item.ensures (refl, (refl, items_view vs, c.in-Some.ensures, first))

pub loop-i-preserved : goal.loop-i-preserved
loop-i-preserved g c =
    let vs = c.in-Some.items.now.items in
    let v = c.index.result.now in
    let within : c.loop-i.i < length vs = grind (arith, common_steps) in
    let at : get_or vs c.loop-i.i v ≡ v = grind (arith, common_steps) in
    rw c.in_ok-push-in-Some-from_value.ensures.items (one_more g.T.FromValue.IsSaid vs _ _ v _ within at c.loop-i.invariant
    c.in-Some-from_value.ensures)
