use Rattle.kernel.proofs.Names.{refl}
use Rattle.std.proofs.Common.{◌≡◌}
use Rattle.model.specs.declared.answer.Answer.TheVariants as answer
use Rattle.model.specs.declared.answer.Refusal.TheVariants as refusal
use Rattle.kernel.specs.Power as power
use Rattle.kernel.proofs.Machines.{requested_up, goes_down, some_after, some_up, stays_up}
use Rattle.kernel.proofs.kernel.Kernel.go_on.Goals as goal

pub serve-requires-clause-up : goal.serve-requires-clause-up
serve-requires-clause-up g c =
    requested_up _ _ _ c.self.inside.live c.self.inside.device c.in-Some.live c.in-Some.is c.self.invariant

pub invariant_of-self : goal.invariant_of-self
invariant_of-self g c =
    some_after _ _ _ (power.Up c.in-Some.live) (power.Up c.serve.new.live) c.args.command c.in-Ok.answer
    (stays_up _ _ _ c.in-Some.live c.serve.new.live c.args.command c.in-Ok.answer
    c.in-Ok.ensures.no_fault c.in-Ok.ensures.serves) (some_up _ _ _ c.self.inside.live c.self.inside.device c.in-Some.live c.in-Some.is
    c.self.invariant)

pub invariant_of-self-in-Fault : goal.invariant_of-self-in-Fault
invariant_of-self-in-Fault g c =
    let device = (g.S.ObjectStore.view c.serve.new.live.store).beneath in
    rw (c.go_down.ensures.down, c.go_down.ensures.device device refl) (some_after _ _ _ (power.Up c.in-Some.live)
    (power.Down device) c.args.command (answer.Refused refusal.Fault) (goes_down _ _ _ c.in-Some.live c.serve.new.live c.args.command
    device (g.met.D.Device.counts_now _) (rw c.in-Fault.is at c.in-Err.ensures.serves) refl)
    (some_up _ _ _ c.self.inside.live c.self.inside.device c.in-Some.live c.in-Some.is
    c.self.invariant))

pub returns-in-Ok-clause-serves : goal.returns-in-Ok-clause-serves
returns-in-Ok-clause-serves g c =
    rw (← c.self.view_is, c.in-Some.is) (stays_up _ _ _ c.in-Some.live c.serve.new.live c.args.command c.in-Ok.answer
    c.in-Ok.ensures.no_fault c.in-Ok.ensures.serves)

pub returns-in-Fault-clause-serves : goal.returns-in-Fault-clause-serves
returns-in-Fault-clause-serves g c =
    let device = (g.S.ObjectStore.view c.serve.new.live.store).beneath in
    rw (← c.self.view_is, c.in-Some.is, c.go_down.ensures.down, c.go_down.ensures.device device refl)
    (goes_down _ _ _ c.in-Some.live c.serve.new.live c.args.command
    device (g.met.D.Device.counts_now _) (rw c.in-Fault.is at c.in-Err.ensures.serves) refl)

pub returns-in-Fault-clause-cause : goal.returns-in-Fault-clause-cause
returns-in-Fault-clause-cause g c =
    rw (
      ← c.self.view_is,
      c.in-Some.is,
      c.go_down.ensures.down,
      c.go_down.ensures.device (g.S.ObjectStore.view c.serve.new.live.store).beneath refl,
    ) (rw c.in-Fault.is at c.in-Err.ensures.cause)

pub invariant_of-self-in_default : goal.invariant_of-self-in_default
invariant_of-self-in_default g c =
    let told = answer.Refused c.in-Err.why in
    some_after _ _ _ (power.Up c.in-Some.live) (power.Up c.serve.new.live) c.args.command told
    (stays_up _ _ _ c.in-Some.live c.serve.new.live c.args.command told
    (λ e. let is : c.in-Err.why ≡ refusal.Fault = cc in c.in_default.not-Fault is) c.in-Err.ensures.serves)
    (some_up _ _ _ c.self.inside.live c.self.inside.device c.in-Some.live c.in-Some.is c.self.invariant)

pub returns-in_default-clause-serves : goal.returns-in_default-clause-serves
returns-in_default-clause-serves g c =
    rw (← c.self.view_is, c.in-Some.is) (stays_up _ _ _ c.in-Some.live c.serve.new.live c.args.command (answer.Refused c.in-Err.why)
    (λ e. let is : c.in-Err.why ≡ refusal.Fault = cc in c.in_default.not-Fault is) c.in-Err.ensures.serves)
