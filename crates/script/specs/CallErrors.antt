-- The errors that calls of a reader or a writer returned.
use Rattle.script.specs.Names.{ℕ, Option, Result, MatchResult, option_map}
use Rattle.std.specs.Prelude.{◌≡◌, ◌⊎◌, ◌≤◌, ◌+◌, ◌-◌, ◌^◌}

-- how many calls failed, and how many were interrupted; a write that takes none of its bytes counts as failed
pub record CallErrors : Type 0 where
  pub failed : ℕ
  pub interrupted : ℕ

-- the errors after more failed and more interrupted calls
abbrev pub more_errors : ℕ → ℕ → CallErrors → CallErrors
more_errors failed interrupted errors = record {
  failed = errors.failed + failed;
  interrupted = errors.interrupted + interrupted;
}

-- no call failed; any number of calls were interrupted
abbrev pub NoneFailed : Option CallErrors → Option CallErrors → Type 0
NoneFailed old new = (n : ℕ) × (new ≡ option_map (more_errors 0 n) old)

-- one call failed, or 2^64 - 1 were interrupted
abbrev pub OneFailed : Option CallErrors → Option CallErrors → Type 0
OneFailed old new = (n : ℕ)
    × ((new ≡ option_map (more_errors 1 n) old) ⊎ ((2 ^ 64 - 1 ≤ n) × (new ≡ option_map (more_errors 0 n) old)))

-- a result is an error exactly if a call failed
abbrev pub HasCause : {T E : Type 0} → Option CallErrors → Option CallErrors → Result T E → Type 0
HasCause old new result = MatchResult result (λ _. NoneFailed old new) (λ _. OneFailed old new)
