-- The texts of capabilities and states need no escapes between quotes.
use Rattle.image_describer.proofs.Names.{ℕ, Bool, true, false, not, nat_lt, List, [], codes, decimal, IfSome, inl, inr, refl, arith, list_all, list_any}
use Rattle.image_describer.proofs.Names.{AllDigits, cases_Bool, nat_tests, decimal_is_IsNumeral, digit_from_value, is_non_eol, encoding_of, escaped, is_control}
use Rattle.image_describer.proofs.Names.{needs_escape, quotes_after, string_text, IsWellFormed, named, access_text, capability_text, state_text, Access}
use Rattle.image_describer.proofs.Names.{Capability, State, Available, Running, Waiting, quoted}
use Rattle.std.proofs.Common.{◌≡◌, ◌<◌, ◌≤◌, ◌^◌, ◌&&◌, ◌==◌, ◌∷◌, ◌++◌}

-- whether a byte needs no escape in a string
abbrev is_safe : ℕ → Bool
is_safe c = (nat_lt 31 c && nat_lt c 127) && (not (c == 34) && not (c == 92))

abbrev are_safe : List ℕ → Bool
are_safe text = list_all is_safe text

safe_append : (s t : List ℕ) → are_safe s ≡ true → are_safe t ≡ true → are_safe (s ++ t) ≡ true
safe_append [] t one other = other
safe_append (c ∷ cs) t one other = grind (arith, nat_tests, safe_append cs t)

safe_digit : (c : ℕ) → 48 ≤ c → c ≤ 57 → is_safe c ≡ true
safe_digit c least most = grind (arith, nat_tests, least, most)

safe_digits : (ds : List ℕ) → AllDigits 10 ds → are_safe ds ≡ true
safe_digits [] digits = refl
safe_digits (c ∷ cs) digits = grind (arith, nat_tests, safe_digits cs digits.1, digit_from_value, safe_digit)

safe_decimal : (n : ℕ) → n < 2 ^ 64 → are_safe (decimal n) ≡ true
safe_decimal n small = safe_digits (decimal n) (decimal_is_IsNumeral n small).0.1

-- if a test fails for every safe byte, it finds nothing in a text of safe bytes
none_found : (test : ℕ → Bool) (text : List ℕ) → ((c : ℕ) → is_safe c ≡ true → test c ≡ false) → are_safe text ≡ true →
    list_any test text ≡ false
none_found test [] other safe = refl
none_found test (c ∷ cs) other safe = grind (arith, nat_tests, none_found test cs other)

not_control : (c : ℕ) → is_safe c ≡ true → is_control c ≡ false
not_control c safe = grind (arith, nat_tests, safe)

not_newline : (c : ℕ) → is_safe c ≡ true → (c == 10) ≡ false
not_newline c safe = grind (arith, nat_tests, safe)

not_quote : (c : ℕ) → is_safe c ≡ true → (c == 34) ≡ false
not_quote c safe = grind (arith, nat_tests, safe)

not_backslash : (c : ℕ) → is_safe c ≡ true → (c == 92) ≡ false
not_backslash c safe = grind (arith, nat_tests, safe)

not_escaped : (quotes c : ℕ) → is_safe c ≡ true → needs_escape false quotes c ≡ false
unfolding needs_escape
not_escaped quotes c safe =
    let control : is_non_eol c ≡ true = grind (arith, nat_tests, safe) in
    let other : (c == 9) ≡ false = grind (arith, nat_tests, safe) in
    rw (not_quote c safe, not_newline c safe, not_backslash c safe, control, other)

same_escaped : (quotes : ℕ) (text : List ℕ) → are_safe text ≡ true → escaped false quotes text ≡ text
unfolding escaped
same_escaped quotes [] safe = refl
same_escaped quotes (c ∷ cs) safe =
    elim (cases_Bool (is_safe c)) [
      | inl holds ↦ rw (not_escaped quotes c holds, same_escaped (quotes_after false quotes c) cs (rw holds at safe))
      | inr none ↦ let never : false ≡ true = rw none at safe in absurd cc
    ]

-- a text of safe bytes is written between quotes as it stands
string_safe : (text : List ℕ) → are_safe text ≡ true → string_text text ≡ quoted text
unfolding string_text encoding_of
string_safe text safe = rw (
  none_found is_control text not_control safe,
  none_found (λ x. x == 92) text not_backslash safe,
  none_found (λ x. x == 34) text not_quote safe,
  none_found (λ x. x == 10) text not_newline safe,
  same_escaped 0 text safe,
)

safe_access : (a : Access) → are_safe (access_text a) ≡ true
safe_access a = grind (arith, nat_tests)

safe_capability : (c : Capability) → IsWellFormed c → IfSome (named c) (λ n. n < 2 ^ 64) → are_safe (capability_text c) ≡ true
unfolding capability_text
safe_capability c well small = grind (arith, nat_tests, safe_decimal, safe_append, safe_access)

pub quoted_capability : (c : Capability) → IsWellFormed c → IfSome (named c) (λ n. n < 2 ^ 64) →
    string_text (capability_text c) ≡ quoted (capability_text c)
quoted_capability c well small = string_safe (capability_text c) (safe_capability c well small)

pub quoted_state : (s : State) → string_text (state_text s) ≡ quoted (state_text s)
quoted_state Available = string_safe (codes "available") refl
quoted_state Running = string_safe (codes "running") refl
quoted_state Waiting = string_safe (codes "waiting") refl
