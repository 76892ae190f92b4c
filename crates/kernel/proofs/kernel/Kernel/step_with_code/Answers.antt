use Rattle.model.specs.declared.answer.Answer.TheVariants as answer
use Rattle.model.specs.declared.command.Command.TheVariants as command
use Rattle.kernel.proofs.Machines.{memory_taken}
use Rattle.kernel.proofs.kernel.Kernel.step_with_code.Goals as goal

pub returns-in-Err-clause-memory : goal.returns-in-Err-clause-memory
returns-in-Err-clause-memory g c =
    rw (c.in-Invoke.is, c.from.ensures) (memory_taken _ _ _ c.args.self.now c.invoke.new.self (command.Invoke c.in-Invoke.invocation)
    (answer.Refused c.in-Err.why) c.in-Err.ensures.serves (rw (← c.self.view_is) c.self.invariant))

pub returns-in_default-clause-memory : goal.returns-in_default-clause-memory
returns-in_default-clause-memory g c =
    rw c.from-in_default.ensures (memory_taken _ _ _ c.args.self.now c.go_on.new.self c.args.command.now c.go_on.result
    c.go_on.ensures.serves (rw (← c.self.view_is) c.self.invariant))
