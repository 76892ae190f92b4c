use Rattle.runs.proofs.Names.{Err, Ok, refl}
use Rattle.runs.proofs.SavedRuns.{carried_out}
use Rattle.runs.proofs.saving.carry_out.Goals as goal

pub returns-in-Refused : goal.returns-in-Refused
returns-in-Refused g c = carried_out g.D.Device.disk g.S.ObjectStore.view g.S.Frames.parts c.args.order c.step-answer.result
    c.args.kernel.now
    c.step-answer.new.self (Err c.in-Refused.refusal) c.requires c.step-answer.ensures.serves c.step-answer.ensures.cause c.in-Refused.is

pub returns : goal.returns
returns g c = carried_out g.D.Device.disk g.S.ObjectStore.view g.S.Frames.parts c.args.order c.step-answer.result c.args.kernel.now
    c.step-answer.new.self (Ok c.step-answer.result) c.requires c.step-answer.ensures.serves c.step-answer.ensures.cause
    (refl, c.in_default.not-Refused)
