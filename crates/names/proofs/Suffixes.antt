-- Where the last bytes that pass a test begin in a text.
use Rattle.std.proofs.Common.{◌≡◌, ◌+◌, ◌-◌, ◌==◌, ◌<◌, ◌≤◌, ℕ, Bool, List, arith, ap, false, get_or, length, not, take, true}
use Rattle.std.proofs.lemmas.Bool.Decides.{nat_tests}
use Rattle.std.proofs.lemmas.List.{take_all}
use Rattle.std.proofs.lemmas.List.Sums.{suffix_len-le-length, suffix_len-take_no, suffix_len-take_yes}
use Rattle.std.specs.Char.{is_ascii_digit}
use Rattle.std.specs.List.{suffix_len}
use Rattle.names.specs.Output.{is_in_line}

module _ (p : ℕ → Bool) (text : List ℕ) where
  -- all bytes after the first n pass the test: the passing bytes at the end are these, and those at the end of the first n
  abbrev pub FollowFrom : ℕ → Type 0
  FollowFrom n = (n ≤ length text) × (suffix_len p text ≡ (length text - n) + suffix_len p (take n text))

  pub none_seen : FollowFrom (length text)
  none_seen =
      let whole : take (length text) text ≡ text = take_all (length text) text (omega arith) in
      (omega arith, omega (arith, ap (suffix_len p) whole))

  pub one_more : (n d : ℕ) → 0 < n → p (get_or text (n - 1) d) ≡ true → FollowFrom n → FollowFrom (n - 1)
  one_more n d some passes (within, follow) =
      (omega (arith, within), omega (arith, follow, within, some, suffix_len-take_yes p text n d some within passes))

  pub no_more : (n d : ℕ) → 0 < n → p (get_or text (n - 1) d) ≡ false → FollowFrom n → n ≡ length text - suffix_len p text
  no_more n d some other (within, follow) = omega (arith, follow, within, suffix_len-take_no p text n d some within other)

  pub none_left : (n : ℕ) → (0 < n → ⊥) → FollowFrom n → n ≡ length text - suffix_len p text
  none_left n none (within, follow) =
      omega (arith, follow, within, none, suffix_len-le-length p (take n text), suffix_len-le-length p text)

pub one_in_line : (text : List ℕ) (n d : ℕ) → 0 < n → (get_or text (n - 1) d == 10) ≡ false → FollowFrom is_in_line text n →
    FollowFrom is_in_line text (n - 1)
one_in_line text n d some other follow = let passes : not (get_or text (n - 1) d == 10) ≡ true = ap not other in
    one_more is_in_line text n d some passes follow

pub no_more_in_line : (text : List ℕ) (n d : ℕ) → 0 < n → (get_or text (n - 1) d == 10) ≡ true → FollowFrom is_in_line text n →
    n ≡ length text - suffix_len is_in_line text
no_more_in_line text n d some newline follow = let fails : not (get_or text (n - 1) d == 10) ≡ false = ap not newline in
    no_more is_in_line text n d some fails follow
