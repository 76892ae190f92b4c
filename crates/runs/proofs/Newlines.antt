-- The first newline of a text.
use Rattle.runs.proofs.Names.{ℕ, List, None, Some, Option, length, take, get_or, sym, subst, arith, slice_index_or, IfNone, IfSome, nat_tests, get_or-take}
use Rattle.runs.proofs.Names.{get_or_default, length-take, take_all, IsFirstByte, Nowhere, Passes, is_byte, IsOneLine}
use Rattle.std.proofs.Common.{◌≡◌, ◌<◌, ◌∙◌}

-- if there is no newline before `end`, the bytes before it are one line
one_line : (bytes : List ℕ) (end : ℕ) → Nowhere (Passes (is_byte 10) bytes) 0 end → IsOneLine (take end bytes)
one_line bytes end nowhere k d lt = λ is.
    let before : k < end = omega (arith, length-take end bytes, lt) in
    let within : k < length bytes = omega (arith, length-take end bytes, lt) in
    let here : get_or bytes k 0 ≡ 10 = get_or_default bytes k 0 d within ∙ sym (get_or-take end bytes k d before) ∙ is in
    nowhere k (omega arith) before (grind (arith, nat_tests))

pub line_ends : (bytes : List ℕ) (r : Option ℕ) → IsFirstByte (is_byte 10) bytes r
    → IfSome r (λ end. (end < length bytes) × IsOneLine (take end bytes) × (slice_index_or bytes end 0 ≡ 10))
line_ends bytes r first = search (arith, nat_tests, one_line)

pub no_line_ends : (bytes : List ℕ) (r : Option ℕ) → IsFirstByte (is_byte 10) bytes r → IfNone r (IsOneLine bytes)
no_line_ends bytes None first = subst (λ (text : List ℕ). IsOneLine text) (take_all (length bytes) bytes (omega arith))
    (one_line bytes (length bytes) first)
no_line_ends bytes (Some end) first = tt
