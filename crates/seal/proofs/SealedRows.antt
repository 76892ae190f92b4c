-- A row is sealed, or tested for its seal.
use Rattle.seal.proofs.Names.{ℕ, Bool, true, eqb, List, [], length, take, drop, ap, subst, sym, refl, arith, nat_tests, append-nil, drop_all, drop_at}
use Rattle.seal.proofs.Names.{length-append, take_at, All-from_get_or, IsRow, IsSealed, body_of, sums_bytes, sums_of, Sums}
use Rattle.std.proofs.Common.{◌≡◌, ◌+◌, ◌-◌, ◌%◌, ◌<◌, ◌≤◌, ◌&&◌, ◌++◌, ◌∙◌}
use Rattle.seal.proofs.Damaged.{body_row, row_words}
use Rattle.seal.proofs.Numbers.{AreBytes}
use Rattle.seal.proofs.Spelled.{AreWords, length_sums, one_spelling}
use Rattle.seal.proofs.Weights.{same_sums}

is_row : (row : List ℕ) → AreBytes row → length row % 4 ≡ 0 → length row ≤ 4096 → IsRow row
is_row row bytes whole size = record { bytes = All-from_get_or (λ b. b < 256) row 0 (λ i lt. bytes i); whole = whole; size = size }

-- a row has no bytes after its seal
nothing_behind : (row : List ℕ) → 24 ≤ length row → drop (length row - 24 + 24) row ≡ []
nothing_behind row room = drop_all (length row - 24 + 24) row (omega (arith, room))

three_tests : (a b c d e f : ℕ) (test : Bool) → test ≡ (eqb a d && (eqb b e && eqb c f)) → test ≡ true → (a ≡ d) × (b ≡ e) × (c ≡ f)
three_tests a b c d e f test is passes = grind (arith, nat_tests)

tests_pass : (a b c d e f : ℕ) (test : Bool) → test ≡ (eqb a d && (eqb b e && eqb c f)) → a ≡ d → b ≡ e → c ≡ f → test ≡ true
tests_pass a b c d e f test is same_a same_b same_c = grind (arith, nat_tests)

-- the sums read from the seal are those of the body exactly if the row is sealed
pub seal_decides : (row : List ℕ) (s t : Sums) (test : Bool) → AreBytes row → length row % 4 ≡ 0 → 24 ≤ length row → length row ≤ 4096 →
    AreWords s → drop (length row - 24) row ≡ sums_bytes s ++ drop (length row - 24 + 24) row → t ≡ sums_of (take (length row - 24) row)
    → test ≡ (eqb s.a t.a && (eqb s.b t.b && eqb s.c t.c)) → (test ≡ true → IsSealed row) × (IsSealed row → test ≡ true)
seal_decides row s t test bytes whole room size words read is tested =
    let body : List ℕ = take (length row - 24) row in
    let spelled : drop (length row - 24) row ≡ sums_bytes s =
    read ∙ ap (λ (rest : List ℕ). sums_bytes s ++ rest) (nothing_behind row room) ∙ append-nil (sums_bytes s) in
    let words' : AreWords t = subst AreWords (sym is) (row_words body (body_row row room (is_row row bytes whole size))) in (
      λ passes.
          let three = three_tests s.a s.b s.c t.a t.b t.c test tested passes in
          spelled ∙ ap sums_bytes (same_sums s t three.0 three.1 three.2 ∙ is),
      λ sealed.
          let same : s ≡ t = one_spelling s t words words' (sym spelled ∙ sealed ∙ ap sums_bytes (sym is)) in
          tests_pass s.a s.b s.c t.a t.b t.c test tested (ap (λ (u : Sums). u.a) same) (ap (λ (u : Sums). u.b) same)
          (ap (λ (u : Sums). u.c) same),
    )

pub sealed_now : (row new : List ℕ) (s : Sums) → 24 ≤ length row → s ≡ sums_of (take (length row - 24) row)
    → new ≡ (take (length row - 24) row ++ sums_bytes s) ++ drop (length row - 24 + 24) row → IsSealed new × (body_of new ≡ body_of row)
sealed_now row new s room is written =
    let body : List ℕ = take (length row - 24) row in
    let whole : new ≡ body ++ sums_bytes s =
    written ∙ ap (λ (rest : List ℕ). (body ++ sums_bytes s) ++ rest) (nothing_behind row room) ∙ append-nil (body ++ sums_bytes s) in
    let size : length new ≡ length (body ++ sums_bytes s) = ap (λ (xs : List ℕ). length xs) whole in
    let end : length new - 24 ≡ length body = omega (arith, size, length-append body (sums_bytes s), length_sums s) in
    let front : body_of new ≡ body =
    ap (λ (n : ℕ). take n new) end ∙ ap (take (length body)) whole ∙ take_at body (sums_bytes s) (length body) refl in
    let back : drop (length new - 24) new ≡ sums_bytes s =
    ap (λ (n : ℕ). drop n new) end ∙ ap (drop (length body)) whole ∙ drop_at body (sums_bytes s) (length body) refl in
    (back ∙ ap sums_bytes is ∙ ap (λ (xs : List ℕ). sums_bytes (sums_of xs)) (sym front), front)
