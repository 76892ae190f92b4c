-- The errors of a file's calls, one call after another.
use Rattle.devices.proofs.Names.{ℕ, Option, None, Some, Result, Ok, Err, option_map, refl, arith, nat_tests, inl, inr, CallErrors, more_errors, NoneFailed, OneFailed, HasCause, HasFailed, ap, sym, false, is_ok}
use Rattle.std.proofs.Common.{◌≡◌, ◌+◌, ◌-◌, ◌^◌, ◌≤◌, ◌∙◌}

-- counting errors twice is counting their sum
pub more_twice : (x : Option CallErrors) (f i g j : ℕ) → option_map (more_errors g j) (option_map (more_errors f i) x)
    ≡ option_map (more_errors (f + g) (i + j)) x
more_twice None f i g j = refl
more_twice (Some x) f i g j = grind (arith, nat_tests)

pub none_so_far : (x : Option CallErrors) → x ≡ option_map (more_errors 0 0) x
none_so_far None = refl
none_so_far (Some x) = grind (arith, nat_tests)

-- one more interruption after n makes n + 1
pub interrupted_more : (a b c : Option CallErrors) (n : ℕ) → b ≡ option_map (more_errors 0 n) a → c ≡ option_map (more_errors 0 1) b
    → c ≡ option_map (more_errors 0 (n + 1)) a
interrupted_more a b c n was is = is ∙ ap (option_map (more_errors 0 1)) was ∙ more_twice a 0 n 0 1

-- a failed call after n interruptions counts as `OneFailed`
pub failed_after : (a b c : Option CallErrors) (n : ℕ) → b ≡ option_map (more_errors 0 n) a → c ≡ option_map (more_errors 1 0) b →
    OneFailed a c
failed_after a b c n was is = (n + 0, inl (is ∙ ap (option_map (more_errors 1 0)) was ∙ more_twice a 0 n 1 0))

-- 2^64 - 1 interruptions count as `OneFailed`
pub gave_up : (a b : Option CallErrors) (n : ℕ) → 2 ^ 64 - 1 ≤ n → b ≡ option_map (more_errors 0 n) a → OneFailed a b
gave_up a b n many is = (n, inr (many, is))

pub none_trans : (a b c : Option CallErrors) → NoneFailed a b → NoneFailed b c → NoneFailed a c
none_trans a b c first second = (
  first.0 + second.0,
  second.1 ∙ ap (option_map (more_errors 0 second.0)) first.1
      ∙ more_twice a 0 first.0 0 second.0,
)

pub one_after : (a b c : Option CallErrors) → NoneFailed a b → OneFailed b c → OneFailed a c
one_after a b c first (n, inl is) = (first.0 + n, inl (is ∙ ap (option_map (more_errors 1 n)) first.1 ∙ more_twice a 0 first.0 1 n))
one_after a b c first (n, inr is) = (
  first.0 + n,
  inr (
    omega (arith, is.0),
    is.1 ∙ ap (option_map (more_errors 0 n)) first.1
        ∙ more_twice a 0 first.0 0 n,
  ),
)

abbrev failed_of : Option CallErrors → ℕ
failed_of None = 0
failed_of (Some errors) = errors.failed

abbrev interrupted_of : Option CallErrors → ℕ
interrupted_of None = 0
interrupted_of (Some errors) = errors.interrupted

not_known : (e : CallErrors) → None ≡ Some e → ⊥
not_known e is = cc

-- if one call failed or all retries were interrupted, something failed
one_is_some : (a b : Option CallErrors) → OneFailed a b → HasFailed b
one_is_some None b (n, inl is) e some none = absurd (not_known e (sym is ∙ some))
one_is_some None b (n, inr is) e some none = absurd (not_known e (sym is.1 ∙ some))
one_is_some (Some a) b (n, inl is) e some none = omega (arith, ap failed_of (sym some ∙ is), none)
one_is_some (Some a) b (n, inr is) e some none = omega (arith, ap interrupted_of (sym some ∙ is.1), is.0)

-- if a call returned an error, a call of the file failed
pub cause_is_some : {T E : Type 0} (a b : Option CallErrors) (r : Result T E) → HasCause a b r → false ≡ is_ok r → HasFailed b
cause_is_some {T} {E} a b (Ok x) cause err = cc
cause_is_some {T} {E} a b (Err x) cause err = one_is_some a b cause
