use Rattle.std.proofs.Common.{Err, Ok, refl, rules}
use Rattle.model.specs.declared.command.Command.TheVariants as command
use Rattle.runs.proofs.SavedRuns.{carried_out}
use Rattle.shell.proofs.listing.shown.Goals as goal

pub returns-in-Refused : goal.returns-in-Refused
returns-in-Refused g c = carried_out g.D.Device.disk g.S.ObjectStore.view g.S.Frames.parts (command.Show c.args.number) c.step-answer.result
    c.args.kernel.now c.step-answer.new.self (Err c.in-Refused.refusal) (search rules) c.step-answer.ensures.serves
    c.step-answer.ensures.cause
    c.in-Refused.is

pub returns : goal.returns
returns g c = carried_out g.D.Device.disk g.S.ObjectStore.view g.S.Frames.parts (command.Show c.args.number) c.step-answer.result
    c.args.kernel.now
    c.step-answer.new.self (Ok c.step-answer.result) (search rules) c.step-answer.ensures.serves c.step-answer.ensures.cause
    (refl, c.in_default.not-Refused)
