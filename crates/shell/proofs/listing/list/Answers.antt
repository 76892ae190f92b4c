use Rattle.std.proofs.Common.{Err, refl}
use Rattle.std.proofs.lemmas.Result.{err_from_is_err_and}
use Rattle.shell.proofs.Listed.{list_cut, more_listed}
use Rattle.shell.proofs.listing.list.Goals as goal

pub returns-in_err-print_shown-in-Ok-clause-lists : goal.returns-in_err-print_shown-in-Ok-clause-lists
returns-in_err-print_shown-in-Ok-clause-lists g c =
    let p = err_from_is_err_and c.from_residual.result c.from_residual.ensures.1 in
    rw (p.1, p.2) (list_cut g.D.Device.disk g.S.ObjectStore.view g.S.Frames.parts c.loop-number.number c.in-Ok.answer
    c.in_err-print_shown-in-Ok.field-0.0 c.args.kernel.now c.loop-number.kernel c.shown.new.kernel (g.W.Output.written c.args.writer.now)
    (g.W.Output.written c.loop-number.writer) (g.W.Output.written c.print_shown.new.writer) (Err c.in_err-print_shown-in-Ok.field-0.0)
    c.loop-number.invariant c.in-Ok.ensures refl c.in_err-print_shown-in-Ok.ensures)

pub loop-number-preserved : goal.loop-number-preserved
loop-number-preserved g c =
    more_listed g.D.Device.disk g.S.ObjectStore.view g.S.Frames.parts c.loop-number.number c.in-Ok.answer c.args.kernel.now
    c.loop-number.kernel
    c.shown.new.kernel (g.W.Output.written c.args.writer.now) (g.W.Output.written c.loop-number.writer)
    (g.W.Output.written c.print_shown.new.writer)
    c.loop-number.invariant c.in-Ok.ensures c.in_ok-print_shown-in-Ok.ensures
