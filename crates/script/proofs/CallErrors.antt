-- How the counts of failed and interrupted calls add up over several calls.
use Rattle.script.proofs.Names.{ℕ, Option, None, Some, Result, Ok, Err, option_map, refl, arith, nat_tests, inl, inr, CallErrors, more_errors, NoneFailed}
use Rattle.script.proofs.Names.{OneFailed, HasCause, ap}
use Rattle.std.proofs.Common.{◌≡◌, ◌+◌, ◌-◌, ◌^◌, ◌≤◌, ◌∙◌}

-- counting errors twice is counting their sums once
pub more_twice : (x : Option CallErrors) (f i g j : ℕ) → option_map (more_errors g j) (option_map (more_errors f i) x)
    ≡ option_map (more_errors (f + g) (i + j)) x
more_twice None f i g j = refl
more_twice (Some x) f i g j = grind (arith, nat_tests)

pub none_so_far : (x : Option CallErrors) → x ≡ option_map (more_errors 0 0) x
none_so_far None = refl
none_so_far (Some x) = grind (arith, nat_tests)

-- one interrupted call and then n more are n + 1 interrupted calls
pub interrupted_more : (a b c : Option CallErrors) (n : ℕ) → b ≡ option_map (more_errors 0 n) a → c ≡ option_map (more_errors 0 1) b
    → c ≡ option_map (more_errors 0 (n + 1)) a
interrupted_more a b c n was is = is ∙ ap (option_map (more_errors 0 1)) was ∙ more_twice a 0 n 0 1

-- if n calls were interrupted and the next failed, one call failed
pub failed_after : (a b c : Option CallErrors) (n : ℕ) → b ≡ option_map (more_errors 0 n) a → c ≡ option_map (more_errors 1 0) b →
    OneFailed a c
failed_after a b c n was is = (n + 0, inl (is ∙ ap (option_map (more_errors 1 0)) was ∙ more_twice a 0 n 1 0))

-- after 2^64 - 1 interruptions the write counts as failed
pub gave_up : (a b : Option CallErrors) (n : ℕ) → 2 ^ 64 - 1 ≤ n → b ≡ option_map (more_errors 0 n) a → OneFailed a b
gave_up a b n many is = (n, inr (many, is))

pub none_trans : (a b c : Option CallErrors) → NoneFailed a b → NoneFailed b c → NoneFailed a c
none_trans a b c first second = (
  first.0 + second.0,
  second.1 ∙ ap (option_map (more_errors 0 second.0)) first.1
      ∙ more_twice a 0 first.0 0 second.0,
)

pub one_after : (a b c : Option CallErrors) → NoneFailed a b → OneFailed b c → OneFailed a c
one_after a b c first (n, inl is) = (first.0 + n, inl (is ∙ ap (option_map (more_errors 1 n)) first.1 ∙ more_twice a 0 first.0 1 n))
one_after a b c first (n, inr is) = (
  first.0 + n,
  inr (
    omega (arith, is.0),
    is.1 ∙ ap (option_map (more_errors 0 n)) first.1
        ∙ more_twice a 0 first.0 0 n,
  ),
)

-- if no call failed so far, an error that the later calls cause is caused by all calls
pub cause_after : {T E : Type 0} (a b c : Option CallErrors) (r : Result T E) → NoneFailed a b → HasCause b c r → HasCause a c r
cause_after {T} {E} a b c (Ok x) first second = none_trans a b c first second
cause_after {T} {E} a b c (Err x) first second = one_after a b c first second

-- if the errors didn't change, no call failed
pub same_errors : (a b : Option CallErrors) → b ≡ a → NoneFailed a b
same_errors a b is = (0, is ∙ none_so_far a)

-- if one call was interrupted, no call failed
pub one_interrupted : (a b : Option CallErrors) → b ≡ option_map (more_errors 0 1) a → NoneFailed a b
one_interrupted a b is = (1, is)
