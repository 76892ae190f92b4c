use Rattle.std.proofs.Common.{◌-◌}
use Rattle.image_drawer.proofs.Names.{err_from_is_err_and, owner_at, text_fails}
use Rattle.image_drawer.proofs.Rectangles.{starts_on}
use Rattle.image_drawer.proofs.Texts.{two_written}
use Rattle.image_drawer.specs.Graph.{rectangle_start}
use Rattle.image_drawer.specs.Rectangles.{starts}
use Rattle.model.specs.Bank.{chain_within}
use Rattle.image_drawer.proofs.owner.+start_rectangles.Goals as goal

pub returns-in_err-start_rectangles : goal.returns-in_err-start_rectangles
returns-in_err-start_rectangles g t c =
    let p = err_from_is_err_and c.from_residual.result c.from_residual.ensures.1 in
    let os = c.args.objects.now in
    rw (p.1, p.2) (text_fails _ _ _ (starts (chain_within (c.args.most - 1) os (owner_at os c.args.bank))) (rectangle_start c.args.bank) _
    (starts_on os c.args.most c.args.bank c.if-most-eq0.false c.if-bank-eq0.false)
    (rw c.owner_in.ensures at c.in_err-start_rectangles.ensures))

pub returns : goal.returns
returns g t c =
    let os = c.args.objects.now in
    two_written _ _ _ _ (starts (chain_within (c.args.most - 1) os (owner_at os c.args.bank))) (rectangle_start c.args.bank) _
    (starts_on os c.args.most c.args.bank c.if-most-eq0.false c.if-bank-eq0.false)
    (rw c.owner_in.ensures at c.in_ok-start_rectangles.ensures)
    (rw (c.as_bytes-2.ensures, c.start_rectangle-2.ensures.text) at c.write_fully-2.ensures)
