use Rattle.std.proofs.Common.{refl}
use Rattle.jobs.proofs.UpgradedImages.{never_old, read_refused, read_upgraded, total_reported, upgrade_cause}
use Rattle.jobs.proofs.upgrading.write_and_tell.Goals as goal

pub returns-in-Ok-clause-upgraded : goal.returns-in-Ok-clause-upgraded
returns-in-Ok-clause-upgraded g c = λ old opened.
    total_reported c.args.layout g.D.Device.disk g.E.Device.disk old c.args.new.now c.write_to.new.new
    (g.W.Output.written c.args.writer.now)
    (g.W.Output.written c.tell_total.new.writer)
    c.in-Ok.total (c.in-Ok.ensures.upgraded old opened) c.tell_total.result c.tell_total.ensures.reported c.tell_total.ensures.front
    c.tell_total.ensures.fault

pub returns-in-Ok-clause-reads : goal.returns-in-Ok-clause-reads
returns-in-Ok-clause-reads g c = λ old opened.
    read_upgraded g.D.Device.disk g.D.ClosableDevice.was_closed old c.in-Ok.total (c.in-Ok.ensures.reads old opened) c.tell_total.result
    (never_old c.tell_total.result c.tell_total.ensures.fault)

pub returns-in-Err-clause-upgraded : goal.returns-in-Err-clause-upgraded
returns-in-Err-clause-upgraded g c = λ old opened.
    (c.in-Err.ensures.refused old opened, c.in-Err.ensures.untouched, upgrade_cause c.in-Err.fault _ c.in-Err.ensures.cause, refl)

pub returns-in-Err-clause-reads : goal.returns-in-Err-clause-reads
returns-in-Err-clause-reads g c = λ old opened. read_refused g.D.Device.disk g.D.ClosableDevice.was_closed old c.in-Err.fault
    (c.in-Err.ensures.reads old opened)
