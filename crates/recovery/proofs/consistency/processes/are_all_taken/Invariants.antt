use Rattle.recovery.proofs.Names.{ℕ, true, frames_of, role_at, is_taken}
use Rattle.std.proofs.Common.{◌≡◌, ◌<◌}
use Rattle.model.specs.declared.object.Role.TheVariants as role
use Rattle.recovery.proofs.consistency.processes.are_all_taken.Given as goal

abbrev pub invariant-loop-number : goal.invariant-loop-number
invariant-loop-number g l =
    (a : ℕ) → a < l.number → role_at (frames_of (g.F.Frames.parts l.store)) a ≡ role.Annex → is_taken l.taken a ≡ true
