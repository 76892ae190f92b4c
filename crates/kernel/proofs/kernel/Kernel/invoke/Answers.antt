use Rattle.kernel.proofs.Names.{refl}
use Rattle.std.proofs.Common.{◌≡◌}
use Rattle.model.specs.declared.answer.Answer.TheVariants as answer
use Rattle.model.specs.declared.answer.Refusal.TheVariants as refusal
use Rattle.model.specs.declared.command.Command.TheVariants as command
use Rattle.kernel.specs.Power as power
use Rattle.kernel.proofs.Machines.{requested_up, goes_down, some_after, some_up, stays_up}
use Rattle.kernel.proofs.kernel.Kernel.invoke.Goals as goal

pub invoke-requires : goal.invoke-requires
invoke-requires g c =
    requested_up _ _ _ c.self.inside.live c.self.inside.device c.in-Some.live c.in-Some.is c.self.invariant

pub invariant_of-self : goal.invariant_of-self
invariant_of-self g c =
    let did = command.Invoke c.args.invocation.now in
    some_after _ _ _ (power.Up c.in-Some.live) (power.Up c.invoke.new.live) did answer.Done
    (stays_up _ _ _ c.in-Some.live c.invoke.new.live did answer.Done (λ e. cc) c.in-Ok.ensures.serves)
    (some_up _ _ _ c.self.inside.live c.self.inside.device c.in-Some.live c.in-Some.is c.self.invariant)

pub returns-in-Ok-clause-serves : goal.returns-in-Ok-clause-serves
returns-in-Ok-clause-serves g c =
    rw (← c.self.view_is, c.in-Some.is) (stays_up _ _ _ c.in-Some.live c.invoke.new.live (command.Invoke c.args.invocation.now) answer.Done
    (λ e. cc) c.in-Ok.ensures.serves)

pub invariant_of-self-in-Fault : goal.invariant_of-self-in-Fault
invariant_of-self-in-Fault g c =
    let did = command.Invoke c.args.invocation.now in
    let device = (g.S.ObjectStore.view c.invoke.new.live.store).beneath in
    rw (c.go_down.ensures.down, c.go_down.ensures.device device refl)
    (some_after _ _ _ (power.Up c.in-Some.live) (power.Down device) did (answer.Refused refusal.Fault)
    (goes_down _ _ _ c.in-Some.live c.invoke.new.live did device (g.met.D.Device.counts_now _)
    (rw c.in-Fault.is at c.in-Err.ensures.serves) refl) (some_up _ _ _ c.self.inside.live c.self.inside.device c.in-Some.live c.in-Some.is
    c.self.invariant))

pub returns-in-Fault-clause-serves : goal.returns-in-Fault-clause-serves
returns-in-Fault-clause-serves g c =
    let did = command.Invoke c.args.invocation.now in
    let device = (g.S.ObjectStore.view c.invoke.new.live.store).beneath in
    rw (← c.self.view_is, c.in-Some.is, c.go_down.ensures.down, c.go_down.ensures.device device refl)
    (goes_down _ _ _ c.in-Some.live c.invoke.new.live did device (g.met.D.Device.counts_now _)
    (rw c.in-Fault.is at c.in-Err.ensures.serves) refl)

pub returns-in-Fault-clause-cause : goal.returns-in-Fault-clause-cause
returns-in-Fault-clause-cause g c =
    rw (
      ← c.self.view_is,
      c.in-Some.is,
      c.go_down.ensures.down,
      c.go_down.ensures.device
          (g.S.ObjectStore.view c.invoke.new.live.store).beneath refl,
    )
    (rw c.in-Fault.is at c.in-Err.ensures.cause)

pub invariant_of-self-in_default : goal.invariant_of-self-in_default
invariant_of-self-in_default g c =
    let did = command.Invoke c.args.invocation.now in
    let told = answer.Refused c.in-Err.why in
    some_after _ _ _ (power.Up c.in-Some.live) (power.Up c.invoke.new.live) did told
    (stays_up _ _ _ c.in-Some.live c.invoke.new.live did told
    (λ e. let is : c.in-Err.why ≡ refusal.Fault = cc in c.in_default.not-Fault is) c.in-Err.ensures.serves)
    (some_up _ _ _ c.self.inside.live c.self.inside.device c.in-Some.live c.in-Some.is c.self.invariant)

pub returns-in_default : goal.returns-in_default
returns-in_default g c =
    rw (← c.self.view_is, c.in-Some.is) (record {
      serves = stays_up _ _ _ c.in-Some.live c.invoke.new.live (command.Invoke c.args.invocation.now) (answer.Refused c.in-Err.why)
          (λ e. let is : c.in-Err.why ≡ refusal.Fault = cc in c.in_default.not-Fault is) c.in-Err.ensures.serves;
      untouched = c.in-Err.ensures.untouched;
      cause = c.in-Err.ensures.cause;
      code = tt;
    })
