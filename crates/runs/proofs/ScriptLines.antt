-- The lines of a text that is read in pieces.
use Rattle.runs.proofs.Names.{zero, suc, false, ℕ, List, [], length, take, drop, refl, sym, ap, append_assoc, append-nil, arith, slice_index_or, nat_tests}
use Rattle.runs.proofs.Names.{length-drop, take_all, flat_map-append, All-append, All-cons, All-head, All-nil, All-tail, All, flat_map, lines_of, line_of}
use Rattle.runs.proofs.Names.{IsOneLine, AreLines, BeginsWith}
use Rattle.std.proofs.Common.{◌≡◌, ◌≢◌, ◌<◌, ◌+◌, ◌-◌, ◌==◌, ◌∷◌, ◌++◌, ◌∙◌}

-- if a text is a line, a newline and a rest, its lines are this line and the lines of the rest
first_line : (text rest : List ℕ) → IsOneLine text → lines_of (line_of text ++ rest) ≡ text ∷ lines_of rest
first_line [] rest one = refl
first_line (b ∷ bs) rest one =
    let other : (b == 10) ≡ false = let ne : b ≢ 10 = one 0 0 (omega arith) in grind (arith, nat_tests) in
    rw (other, first_line bs rest (λ k d lt. one (suc k) d (omega arith))) refl

-- a text that isn't empty and has no newline is one line
last_line : (text : List ℕ) → IsOneLine text → (text ≡ [] → ⊥) → lines_of text ≡ text ∷ []
last_line [] one some = absurd (some refl)
last_line (b ∷ []) one some =
    let other : (b == 10) ≡ false = let ne : b ≢ 10 = one 0 0 (omega arith) in grind (arith, nat_tests) in rw other refl
last_line (b ∷ c ∷ bs) one some =
    let other : (b == 10) ≡ false = let ne : b ≢ 10 = one 0 0 (omega arith) in grind (arith, nat_tests) in
    rw (other, last_line (c ∷ bs) (λ k d lt. one (suc k) d (omega arith)) (λ is. cc)) refl

pub lines_before : (lines : List (List ℕ)) (more : List ℕ) → All IsOneLine lines →
    lines_of (flat_map line_of lines ++ more) ≡ lines ++ lines_of more
lines_before [] more each = refl
lines_before (l ∷ ls) more each =
    ap lines_of (append_assoc (line_of l) (flat_map line_of ls) more)
    ∙ first_line l (flat_map line_of ls ++ more) (All-head IsOneLine l ls each)
    ∙ ap (λ (xs : List (List ℕ)). l ∷ xs) (lines_before ls more (All-tail IsOneLine l ls each))

-- an empty text has no lines and no rest
pub no_lines : AreLines [] [] []
no_lines = record { whole = refl; each = All-nil IsOneLine; none = All-nil (λ b. b ≢ 10) }

-- reading bytes without a newline extends the rest
pub bytes_more : (text : List ℕ) (lines : List (List ℕ)) (rest bytes : List ℕ) → AreLines text lines rest → IsOneLine bytes →
    AreLines (text ++ bytes) lines (rest ++ bytes)
bytes_more text lines rest bytes are more = record {
  whole = ap (λ (l : List ℕ). l ++ bytes) are.whole ∙ append_assoc (flat_map line_of lines) rest bytes;
  each = are.each;
  none = All-append (λ (b : ℕ). b ≢ 10) rest bytes are.none more;
}

-- reading a newline makes the rest a line
pub line_more : (text : List ℕ) (lines : List (List ℕ)) (rest : List ℕ) → AreLines text lines rest →
    AreLines (text ++ 10 ∷ []) (lines ++ rest ∷ []) []
line_more text lines rest are = record {
  whole = ap (λ (l : List ℕ). l ++ 10 ∷ []) are.whole ∙ sym (simp (flat_map-append line_of lines (rest ∷ []), append-nil, append_assoc));
  each = All-append IsOneLine lines (rest ∷ []) are.each (All-cons IsOneLine rest [] are.none (All-nil IsOneLine));
  none = All-nil (λ b. b ≢ 10);
}

-- a text of whole lines begins with them, whatever follows
pub begins_with : (text : List ℕ) (lines : List (List ℕ)) (more : List ℕ) → AreLines text lines [] → BeginsWith (text ++ more) lines
begins_with text lines more are =
    (more, ap (λ (l : List ℕ). l ++ more) (are.whole ∙ append-nil (flat_map line_of lines)), are.each)

-- the lines of a text of whole lines and more are its lines and those of what follows
lines_first : (text : List ℕ) (lines : List (List ℕ)) (more : List ℕ) → AreLines text lines [] →
    lines_of (text ++ more) ≡ lines ++ lines_of more
lines_first text lines more are = search (arith, nat_tests, append-nil, lines_before)

-- if nothing is left after the lines, they are all lines; else the rest is one more
pub lines_whole : (text : List ℕ) (lines : List (List ℕ)) → AreLines text lines [] → lines_of text ≡ lines
lines_whole text lines are = ap lines_of (sym (append-nil text)) ∙ lines_first text lines [] are ∙ append-nil lines

pub lines_with_rest : (text : List ℕ) (lines : List (List ℕ)) (rest : List ℕ) → AreLines text lines rest → (rest ≡ [] → ⊥) →
    lines_of text ≡ lines ++ rest ∷ []
lines_with_rest text lines rest are some = search (arith, nat_tests, lines_before, last_line)

-- ---- pieces

-- a list is its first i items, the next one, and the others
pub one_and_more : (xs : List ℕ) (i b : ℕ) → i < length xs → slice_index_or xs i 0 ≡ b → xs ≡ (take i xs ++ b ∷ []) ++ drop (suc i) xs
one_and_more [] i b within is = absurd (omega (arith, within))
one_and_more (x ∷ xs) zero b within is = ap (λ (y : ℕ). y ∷ xs) is
one_and_more (x ∷ xs) (suc i) b within is = ap (λ (ys : List ℕ). x ∷ ys) (one_and_more xs i b (omega (arith, within)) is)

-- if a piece has a newline at `end` of its rest, it consists of what was read, the line, the newline and a shorter rest
pub line_taken : (piece read rest : List ℕ) (end : ℕ) → piece ≡ read ++ rest → end < length rest → slice_index_or rest end 0 ≡ 10 →
    piece ≡ ((read ++ take end rest) ++ 10 ∷ []) ++ drop (suc end) rest
line_taken piece read rest end is within newline = search (arith, nat_tests, one_and_more, append_assoc)

-- the code's slice of the bytes after an index is those bytes
pub rest_of : (xs : List ℕ) (i : ℕ) → take (length xs - (i + 1)) (drop (i + 1) xs) ≡ drop (suc i) xs
rest_of xs i =
    let next : i + 1 ≡ suc i = omega arith in
    take_all (length xs - (i + 1)) (drop (i + 1) xs) (omega (arith, length-drop (i + 1) xs)) ∙ ap (λ (n : ℕ). drop n xs) next
