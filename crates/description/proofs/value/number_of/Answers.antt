use Rattle.description.proofs.Names.{true, arith, to_z-of_z, is_negative, view}
use Rattle.std.proofs.Common.{◌≡◌}
use Rattle.description.proofs.Types.{negative}
use Rattle.description.proofs.value.number_of.Goals as goal

pub returns-then-is_negative : goal.returns-then-is_negative
returns-then-is_negative c =
    let below : is_negative c.in-Some.number ≡ true = grind (arith, to_z-of_z) in
    negative (view c.args.value.now) c.in-Some.number c.in-Some.ensures below
