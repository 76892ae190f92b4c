use Rattle.image_builder.proofs.Names.{subst, sym, Description, IsAccepted, plan_for}
use Rattle.std.proofs.Common.{◌≤◌}
use Rattle.image_builder.proofs.Refusals.{accepted}
use Rattle.image_builder.proofs.blueprint.Blueprint.check.Goals as goal

pub returns-clause-accepted : goal.returns-clause-accepted
returns-clause-accepted c sectors enough =
    subst (λ (d : Description). IsAccepted d sectors) c.self.view_is
    (accepted c.self.inside.description c.self.invariant.0 c.in_ok-_world.ensures.sound sectors
    (subst (λ (d : Description). (plan_for d).total ≤ sectors) (sym c.self.view_is) enough))
