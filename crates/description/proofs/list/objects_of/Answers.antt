use Rattle.description.proofs.Names.{length, get_or, arith, common_steps, IsTable}
use Rattle.std.proofs.Common.{◌≡◌, ◌<◌}
use Rattle.description.proofs.Elements.{one_more}
use Rattle.description.proofs.FirstFlaws.{first_bad, passed}
use Rattle.description.proofs.list.objects_of.Goals as goal

pub returns-in_err-object : goal.returns-in_err-object
returns-in_err-object g c =
    let vs = c.in-Some.items.now.items in
    let v = c.index.result.now in
    let within : c.loop-i.i < length vs = grind (arith, common_steps) in
    let at : get_or vs c.loop-i.i v ≡ v = grind (arith, common_steps) in
    passed _ _ _ _ _ c.from_residual.ensures.1 c.in_err-object.ensures
    (λ p bad. first_bad g.T.FromTable.IsRead g.T.FromTable.named c.args.key _ p vs c.loop-i.i c.loop-i.list.items v c.in-Some.ensures within
    at
    c.loop-i.invariant bad)

pub loop-i-preserved : goal.loop-i-preserved
loop-i-preserved g c =
    let vs = c.in-Some.items.now.items in
    let v = c.index.result.now in
    let within : c.loop-i.i < length vs = grind (arith, common_steps) in
    let at : get_or vs c.loop-i.i v ≡ v = grind (arith, common_steps) in
    rw c.in_ok-push.ensures.items (one_more (IsTable g.T.FromTable.IsRead) vs _ _ v _ within at c.loop-i.invariant c.in_ok-object.ensures)
