-- Reading the words of a text, byte by byte.
use Rattle.std.proofs.Common.{◌≡◌, ◌<◌, ◌≤◌, ◌+◌, ◌&&◌, ◌∷◌, ◌++◌, ◌∙◌, ℕ, Bool, true, false, zero, suc, List, [], cond, length, drop, refl, sym, ap, arith, append_assoc, append-nil}
use Rattle.std.proofs.lemmas.Bool.{lt-ltb}
use Rattle.std.proofs.lemmas.List.{drop_all, length-append}
use Rattle.std.specs.List.{filter, onto_first, slice_split}
use Rattle.std.specs.Prelude.{if◌then◌else◌, nat_lt, slice_index_or}
use Rattle.model.specs.Text.{spaced}
use Rattle.shell.specs.Lines.{is_blank, words_in}

-- the words so far with one more byte, after a space if a blank came before it
abbrev pub added : List ℕ → Bool → ℕ → List ℕ
added words apart b = (if apart && nat_lt 0 (length words) then words ++ 32 ∷ [] else words) ++ b ∷ []

-- the words so far and those of the remaining bytes; `apart` says whether a blank came last
abbrev pub going_on : List ℕ → Bool → List ℕ → List ℕ
going_on words apart [] = words
going_on words apart (b ∷ bs) = cond (is_blank b) (going_on words true bs) (going_on (added words apart b) false bs)

-- the parts that aren't empty
abbrev some_parts : List (List ℕ) → List (List ℕ)
some_parts parts = filter (λ word. nat_lt 0 (length word)) parts

abbrev first_part : List (List ℕ) → List ℕ
first_part [] = []
first_part (p ∷ ps) = p

abbrev other_parts : List (List ℕ) → List (List ℕ)
other_parts [] = []
other_parts (p ∷ ps) = ps

-- the text `words` and then these words, with a space between if `words` isn't empty
abbrev behind : List ℕ → List (List ℕ) → List ℕ
behind words [] = words
behind words (p ∷ ps) = cond (nat_lt 0 (length words)) (words ++ 32 ∷ spaced (p ∷ ps)) (spaced (p ∷ ps))

longer : (words : List ℕ) (b : ℕ) (more : List ℕ) → nat_lt 0 (length ((words ++ b ∷ []) ++ more)) ≡ true
longer words b more =
    lt-ltb 0 (length ((words ++ b ∷ []) ++ more)) (omega (arith, length-append (words ++ b ∷ []) more, length-append words (b ∷ [])))

-- a byte before the first part comes before the whole line
spaced_longer : (b : ℕ) (f : List ℕ) (ps : List (List ℕ)) → spaced ((b ∷ f) ∷ ps) ≡ b ∷ spaced (f ∷ ps)
spaced_longer b f [] = refl
spaced_longer b f (p ∷ ps) = refl

-- the words after a part that continues the last word
spaced_behind : (words : List ℕ) (b : ℕ) (f : List ℕ) (ps : List (List ℕ)) →
    behind ((words ++ b ∷ []) ++ f) ps ≡ words ++ spaced ((b ∷ f) ∷ ps)
spaced_behind words b f [] = append_assoc words (b ∷ []) f
spaced_behind words b f (p ∷ ps) =
    rw (longer words b f) (ap (λ (l : List ℕ). l ++ 32 ∷ spaced (p ∷ ps)) (append_assoc words (b ∷ []) f)
    ∙ append_assoc words (b ∷ f) (32 ∷ spaced (p ∷ ps)))

first_onto : (b : ℕ) (parts : List (List ℕ)) → first_part (onto_first b parts) ≡ b ∷ first_part parts
first_onto b [] = refl
first_onto b (p ∷ ps) = refl

other_onto : (b : ℕ) (parts : List (List ℕ)) → other_parts (onto_first b parts) ≡ other_parts parts
other_onto b [] = refl
other_onto b (p ∷ ps) = refl

some_byte : (b : ℕ) (p : List ℕ) → nat_lt 0 (length (b ∷ p)) ≡ true
some_byte b p = lt-ltb 0 (length (b ∷ p)) (omega arith)

some_onto : (b : ℕ) (parts : List (List ℕ)) → some_parts (onto_first b parts) ≡ (b ∷ first_part parts) ∷ some_parts (other_parts parts)
some_onto b [] = refl
some_onto b (p ∷ ps) = rw (some_byte b p) refl

-- if a blank came last, the next byte begins a word
word_begun : (c : ℕ) (xs f words : List ℕ) (ps : List (List ℕ)) →
    ((before : List ℕ) → going_on (before ++ c ∷ []) false xs ≡ behind ((before ++ c ∷ []) ++ f) ps) →
    going_on (added words true c) false xs ≡ behind words ((c ∷ f) ∷ ps)
word_begun c xs f [] ps below = below [] ∙ spaced_behind [] c f ps
word_begun c xs f (w ∷ ws) ps below =
    rw (some_byte w ws) (below ((w ∷ ws) ++ 32 ∷ []) ∙ spaced_behind ((w ∷ ws) ++ 32 ∷ []) c f ps
    ∙ append_assoc (w ∷ ws) (32 ∷ []) (spaced ((c ∷ f) ∷ ps)))

abbrev Reads : List ℕ → Type 0
Reads xs = ((words : List ℕ) → going_on words true xs ≡ behind words (words_in xs))
    × ((words : List ℕ) (b : ℕ) → going_on (words ++ b ∷ []) false xs
    ≡ behind ((words ++ b ∷ []) ++ first_part (slice_split is_blank xs)) (some_parts (other_parts (slice_split is_blank xs))))

both : (xs : List ℕ) → Reads xs
both [] = (λ words. refl, λ words b. sym (append-nil (words ++ b ∷ [])))
both (c ∷ xs) = (λ words. apart (both xs) words (is_blank c) refl, λ words b. within (both xs) words b (is_blank c) refl)
  where
    apart : Reads xs → (words : List ℕ) (r : Bool) → is_blank c ≡ r → going_on words true (c ∷ xs) ≡ behind words (words_in (c ∷ xs))
    apart below words true e = rw e (below.0 words)
    apart below words false e =
        let begun = word_begun c xs (first_part (slice_split is_blank xs)) words (some_parts (other_parts (slice_split is_blank xs)))
        (λ before. below.1 before c) in
        rw (e, some_onto c (slice_split is_blank xs)) begun

    within : Reads xs → (words : List ℕ) (b : ℕ) (r : Bool) → is_blank c ≡ r → going_on (words ++ b ∷ []) false (c ∷ xs)
        ≡ behind ((words ++ b ∷ []) ++ first_part (slice_split is_blank (c ∷ xs)))
        (some_parts (other_parts (slice_split is_blank (c ∷ xs))))
    within below words b true e =
        rw e (below.0 (words ++ b ∷ []) ∙ ap (λ (l : List ℕ). behind l (words_in xs)) (sym (append-nil (words ++ b ∷ []))))
    within below words b false e =
        rw (e, first_onto c (slice_split is_blank xs), other_onto c (slice_split is_blank xs)) (below.1 (words ++ b ∷ []) c
        ∙ ap (λ (l : List ℕ). behind l (some_parts (other_parts (slice_split is_blank xs))))
        (append_assoc (words ++ b ∷ []) (c ∷ []) (first_part (slice_split is_blank xs))))

at_start : (xs : List ℕ) → going_on [] false xs ≡ going_on [] true xs
at_start [] = refl
at_start (b ∷ bs) = refl

behind_none : (ws : List (List ℕ)) → behind [] ws ≡ spaced ws
behind_none [] = refl
behind_none (w ∷ ws) = refl

-- reading all bytes gives the words of the text
pub words_read : (xs : List ℕ) → going_on [] false xs ≡ spaced (words_in xs)
words_read xs = at_start xs ∙ (both xs).0 [] ∙ behind_none (words_in xs)

-- ---- the next byte

next_byte : (xs : List ℕ) (i d : ℕ) → i < length xs → drop i xs ≡ slice_index_or xs i d ∷ drop (i + 1) xs
next_byte [] i d within = absurd (omega (arith, within))
next_byte (x ∷ xs) zero d within = refl
next_byte (x ∷ xs) (suc i) d within =
    next_byte xs i d (omega (arith, within)) ∙ ap (λ (n : ℕ). slice_index_or xs i d ∷ drop n (x ∷ xs))
    (let e : suc (i + 1) ≡ suc i + 1 = omega arith in e)

pub blank_read : (text words all : List ℕ) (apart : Bool) (i d : ℕ) → i < length text → is_blank (slice_index_or text i d) ≡ true →
    going_on words apart (drop i text) ≡ all → going_on words true (drop (i + 1) text) ≡ all
blank_read text words all apart i d within blank so_far =
    let e : going_on words apart (drop i text) ≡ going_on words true (drop (i + 1) text) = rw (next_byte text i d within, blank) refl in
    sym e ∙ so_far

pub byte_added : (text words all after : List ℕ) (apart : Bool) (i d : ℕ) → i < length text → is_blank (slice_index_or text i d) ≡ false →
    after ≡ added words apart (slice_index_or text i d) → going_on words apart (drop i text) ≡ all →
    going_on after false (drop (i + 1) text) ≡ all
byte_added text words all after apart i d within word is so_far =
    let e : going_on words apart (drop i text) ≡ going_on (added words apart (slice_index_or text i d)) false (drop (i + 1) text) =
    rw (next_byte text i d within, word) refl in
    ap (λ (l : List ℕ). going_on l false (drop (i + 1) text)) is ∙ sym e ∙ so_far

pub all_read : (text words all : List ℕ) (apart : Bool) (i : ℕ) → length text ≤ i → going_on words apart (drop i text) ≡ all → words ≡ all
all_read text words all apart i past so_far = ap (going_on words apart) (sym (drop_all i text past)) ∙ so_far
