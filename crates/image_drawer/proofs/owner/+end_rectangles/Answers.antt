use Rattle.std.proofs.Common.{ap, ◌-◌}
use Rattle.image_drawer.proofs.Names.{err_from_is_err_and, owner_at, text_fails}
use Rattle.image_drawer.proofs.Rectangles.{chain_first, ends_on}
use Rattle.image_drawer.proofs.Texts.{two_written}
use Rattle.image_drawer.specs.Graph.{rectangle_end}
use Rattle.image_drawer.specs.Rectangles.{ends}
use Rattle.model.specs.Bank.{chain_within}
use Rattle.image_drawer.proofs.owner.+end_rectangles.Goals as goal

pub returns-in_err-write_fully : goal.returns-in_err-write_fully
returns-in_err-write_fully g t c =
    let p = err_from_is_err_and c.from_residual.result c.from_residual.ensures.1 in
    let first = chain_first c.args.objects.now c.args.most c.args.bank c.if-most-eq0.false in
    rw (p.1, p.2) (text_fails _ _ _ rectangle_end (ends first.0) _ (ap ends first.1) c.in_err-write_fully.ensures)

pub returns : goal.returns
returns g t c =
    let os = c.args.objects.now in
    two_written _ _ _ _ rectangle_end (ends (chain_within (c.args.most - 1) os (owner_at os c.args.bank))) _
    (ends_on os c.args.most c.args.bank c.if-most-eq0.false c.if-bank-eq0.false) c.in_ok-write_fully.ensures
    (rw c.owner_in.ensures at c.end_rectangles.ensures)
