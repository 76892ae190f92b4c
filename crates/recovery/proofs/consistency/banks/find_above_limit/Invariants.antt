use Rattle.recovery.proofs.Names.{ℕ, slice_index, frames_of, role_at}
use Rattle.std.proofs.Common.{◌≡◌, ◌<◌, ◌≤◌}
use Rattle.model.specs.declared.object.Role.TheVariants as role
use Rattle.recovery.proofs.consistency.banks.find_above_limit.Given as goal

abbrev pub invariant-loop-number : goal.invariant-loop-number
invariant-loop-number g l =
    (b : ℕ) → b < l.number → role_at (frames_of (g.F.Frames.parts l.store)) b ≡ role.Bank → slice_index l.usages b ≤ slice_index l.limits b
