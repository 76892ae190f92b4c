-- What a crash might have left since an earlier moment, in a call or between two.
use Rattle.std.specs.Prelude.{◌≤◌, ◌⊎◌, ℕ}
use Rattle.device.specs.Disk.{Image, Disk}

-- Time goes on: an image that a crash since t may have left was one already at `old`, or is one that a crash now may
-- leave.
pub record Elapses (old new : Disk) : Type 0 where
  pub later : old.moment ≤ new.moment
  pub nothing_else : (t : ℕ) (c : Image) → t ≤ old.moment → new.left_since t c → old.left_since t c ⊎ new.may_leave c
  pub keeps : (t : ℕ) (c : Image) → t ≤ old.moment → old.left_since t c → new.left_since t c

-- A crash at any moment since old leaves an image that has P.
pub record LeavesOnly (old new : Disk) (P : Image → Type 0) : Type 0 where
  pub later : old.moment ≤ new.moment
  pub each : (c : Image) → new.left_since old.moment c → P c
  -- each image that a crash since an earlier moment t may have left was possible before, or has P
  pub before : (t : ℕ) (c : Image) → t ≤ old.moment → new.left_since t c → old.left_since t c ⊎ P c
  pub keeps : (t : ℕ) (c : Image) → t ≤ old.moment → old.left_since t c → new.left_since t c

-- A crash at any moment since old leaves an image that a crash of old may leave: nothing was written.
abbrev pub Peeks : Disk → Disk → Type 0
Peeks old new = LeavesOnly old new old.may_leave
