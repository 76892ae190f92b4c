use Rattle.recovery.proofs.Names.{chain, objects_of, frames_of, role_at}
use Rattle.std.proofs.Common.{◌≡◌}
use Rattle.model.specs.declared.object.Role.TheVariants as role
use Rattle.recovery.proofs.Trees.{reaches}
use Rattle.recovery.proofs.consistency.banks.is_reaching.Goals as goal

pub returns-else-not-has_role : goal.returns-else-not-has_role
returns-else-not-has_role g c =
    let fs = frames_of (g.F.Frames.parts c.args.store.now) in
    reaches c.is_in_chain.result (chain (objects_of fs) c.args.number) (role_at fs c.args.number ≡ role.Bank) c.is_in_chain.ensures
    (c.has_role.ensures.0 c.if-not-has_role.false)
