-- The usages of the banks in a chain.
use Rattle.space_bank.specs.Names.{ℕ, List, length, slice_index, is_member}
use Rattle.std.specs.Prelude.{◌≡◌, ◌+◌, ◌<◌, ◌≤◌, ◌^◌, if◌then◌else◌}

-- `more` may be added to a usage, and then `less` subtracted
pub record MayShift (more less usage : ℕ) : Type 0 where
  pub few : usage + more < 2 ^ 64
  pub enough : less ≤ usage + more

-- the usage of each bank in the list rises by `more` and falls by `less`; all others stay
pub record IsShifted (banks : List ℕ) (more less : ℕ) (old new : List ℕ) : Type 0 where
  pub size : length new ≡ length old
  pub each : (b : ℕ) → slice_index new b + (if is_member banks b then less else 0) ≡
      slice_index old b + (if is_member banks b then more else 0)

-- the usage of each bank in the list rises by `count`; all others stay
pub record IsRaised (banks : List ℕ) (count : ℕ) (old new : List ℕ) : Type 0 where
  pub size : length new ≡ length old
  pub each : (b : ℕ) → slice_index new b ≡ slice_index old b + (if is_member banks b then count else 0)
