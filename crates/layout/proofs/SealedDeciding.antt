-- Each image has header slots: their numbers can be determined.
use Rattle.std.proofs.Common.{◌≡◌, ℕ, ◌+◌, ◌-◌, ◌*◌, ◌<◌, ◌≤◌, ◌^◌, ◌⊎◌, ◌++◌, ◌∷◌, List, [], length, get_or, drop, map, zero, suc, ap, refl}
use Rattle.std.proofs.Common.{subst, sym, ◌∙◌, inl, inr, arith}
use Rattle.std.proofs.lemmas.Bool.{cases_eq, cases_lt}
use Rattle.std.proofs.lemmas.List.{append_assoc, drop-drop, drop_at, get_or_default, same_lists}
use Rattle.std.proofs.lemmas.List.Elements.{All-cons, All-head, All-nil, All-tail}
use Rattle.std.proofs.lemmas.List.FromFn.{get_or-map-range_with_len, length-map-range_with_len}
use Rattle.std.specs.List.{range_with_len}
use Rattle.byteorder.specs.Endian.{little_number}
use Rattle.byteorder.specs.Numbers.{little_number-reads_back}
use Rattle.layout.specs.Bytes.{number, zeros}
use Rattle.layout.specs.Frame.{words_bytes}
use Rattle.layout.proofs.Numbers.{length-number}
use Rattle.seal.specs.Sums.{sums_bytes, sums_of}
use Rattle.layout.specs.declared.sealed.header.SealedHeader.{SealedHeader}
use Rattle.layout.specs.sealed.Gate.{HasNumber, copies, gate_numbers}
use Rattle.layout.specs.sealed.Header.{sealed_header_bytes, sealed_header_from, header_numbers}
use Rattle.layout.specs.sealed.Sector.{AreWords, with_seal, sector_bytes}
use Rattle.layout.proofs.GateCopies.{no_majority}
use Rattle.layout.specs.sealed.Opening.{IsSound}

-- ---- lists

same_or_not : (xs ys : List ℕ) → (xs ≡ ys) ⊎ (xs ≡ ys → ⊥)
same_or_not [] [] = inl refl
same_or_not [] (y ∷ ys) = inr (λ e. cc)
same_or_not (x ∷ xs) [] = inr (λ e. cc)
same_or_not (x ∷ xs) (y ∷ ys) =
    elim (cases_eq x y) [
      | inl head ↦
          elim (same_or_not xs ys) [
            | inl rest ↦ inl (ap (λ (n : ℕ). n ∷ xs) head ∙ ap (λ (ns : List ℕ). y ∷ ns) rest)
            | inr other ↦ inr (λ e. other (ap (λ (ns : List ℕ). drop 1 ns) e))
          ]
      | inr other ↦ inr (λ e. other (ap (λ (ns : List ℕ). get_or ns 0 0) e))
    ]

abbrev Fits : ℕ → Type 0
Fits n = n < 2 ^ 64

words_or_not : (ns : List ℕ) → AreWords ns ⊎ (AreWords ns → ⊥)
words_or_not [] = inl (All-nil Fits)
words_or_not (n ∷ ns) =
    elim (cases_lt n (2 ^ 64)) [
      | inl lt ↦
          elim (words_or_not ns) [
            | inl rest ↦ inl (All-cons Fits n ns lt rest)
            | inr not_rest ↦ inr (λ all. not_rest (All-tail Fits n ns all))
          ]
      | inr ge ↦ inr (λ all. let lt : n < 2 ^ 64 = All-head Fits n ns all in omega (arith, lt, ge))
    ]

-- ---- headers

front : (n : ℕ) (rest : List ℕ) → n < 2 ^ 64 → little_number 8 (number n ++ rest) ≡ n
unfolding number
front n rest fits = little_number-reads_back 8 n rest fits

behind : (n k : ℕ) (rest : List ℕ) → drop (8 * suc k) (number n ++ rest) ≡ drop (8 * k) rest
behind n k rest =
    let next : 8 * suc k ≡ 8 + 8 * k = omega arith in
    ap (λ (m : ℕ). drop m (number n ++ rest)) next ∙ sym (drop-drop (8 * k) 8 (number n ++ rest))
    ∙ ap (drop (8 * k)) (drop_at (number n) rest 8 (length-number n))

-- the k-th number is read back from the bytes of numbers
word_there : (ns rest : List ℕ) (k : ℕ) → AreWords ns → k < length ns → little_number 8 (drop (8 * k) (words_bytes ns ++ rest))
    ≡ get_or ns k 0
unfolding words_bytes
word_there [] rest k fits lt = absurd (omega (arith, lt))
word_there (n ∷ ns) rest zero fits lt =
    ap (little_number 8) (append_assoc (number n) (words_bytes ns) rest) ∙ front n (words_bytes ns ++ rest) (All-head Fits n ns fits)
word_there (n ∷ ns) rest (suc k) fits lt =
    ap (λ (l : List ℕ). little_number 8 (drop (8 * suc k) l)) (append_assoc (number n) (words_bytes ns) rest)
    ∙ ap (little_number 8) (behind n k (words_bytes ns ++ rest))
    ∙ word_there ns rest k (All-tail Fits n ns fits) (omega (arith, lt))

abbrev pub eleven : List ℕ → List ℕ
eleven bytes = map (λ k. little_number 8 (drop (8 * k) bytes)) (range_with_len 0 11)

sector_known : (ns bytes : List ℕ) → length ns ≡ 11 → AreWords ns → bytes ≡ sector_bytes ns → eleven bytes ≡ ns
unfolding sector_bytes with_seal
sector_known ns bytes count fits e =
    let blank : List ℕ = zeros (488 - 8 * length ns) in
    let seal : List ℕ = sums_bytes (sums_of (words_bytes ns ++ blank)) in
    let whole : bytes ≡ words_bytes ns ++ (blank ++ seal) = e ∙ append_assoc (words_bytes ns) blank seal in
    let size : length (eleven bytes) ≡ 11 = length-map-range_with_len (λ (k : ℕ). little_number 8 (drop (8 * k) bytes)) 0 11 in
    same_lists (eleven bytes) ns (size ∙ sym count) (λ k d lt.
    let inside : k < 11 = omega (arith, lt, size) in
    let there : k < length ns = omega (arith, inside, count) in
    get_or-map-range_with_len (λ (j : ℕ). little_number 8 (drop (8 * j) bytes)) 0 11 k k d inside (omega arith)
    ∙ ap (λ (l : List ℕ). little_number 8 (drop (8 * k) l)) whole ∙ word_there ns (blank ++ seal) k fits there
    ∙ sym (get_or_default ns k d 0 there))

-- a header is read back from its bytes
pub header_known : (h : SealedHeader) (bytes : List ℕ) → AreWords (header_numbers h) → bytes ≡ sealed_header_bytes h →
    sealed_header_from (eleven bytes) ≡ h
unfolding sealed_header_bytes
header_known h bytes fits e = ap sealed_header_from (sector_known (header_numbers h) bytes refl fits e)

pub one_number : (bytes : List ℕ) (s t : ℕ) → IsSound bytes s → IsSound bytes t → s ≡ t
one_number bytes s t a b =
    let same : a.0 ≡ b.0 = sym (header_known a.0 bytes a.1 a.2) ∙ header_known b.0 bytes b.1 b.2 in
    sym a.3 ∙ ap (λ (h : SealedHeader). h.header.sequence) same ∙ b.3

pub sound_or_not : (bytes : List ℕ) → ((s : ℕ) × IsSound bytes s) ⊎ ((s : ℕ) → IsSound bytes s → ⊥)
sound_or_not bytes =
    let h : SealedHeader = sealed_header_from (eleven bytes) in
    elim (same_or_not bytes (sealed_header_bytes h)) [
      | inl e ↦
          elim (words_or_not (header_numbers h)) [
            | inl fits ↦ inl (h.header.sequence, (h, fits, e, refl))
            | inr none ↦
                inr (λ s is. none (subst (λ (g : SealedHeader). AreWords (header_numbers g)) (sym (header_known is.0 bytes is.1 is.2))
                is.1))
          ]
      | inr other ↦ inr (λ s is. other (is.2 ∙ ap sealed_header_bytes (sym (header_known is.0 bytes is.1 is.2))))
    ]

-- ---- gates

-- either a number other than 0 has a majority among the first i, or none does
majority_or_not : (xs : List ℕ) (i : ℕ) →
    ((n : ℕ) × (0 < n) × (33 ≤ copies n xs)) ⊎ ((k : ℕ) → k < i → 0 < get_or xs k 0 → 33 ≤ copies (get_or xs k 0) xs → ⊥)
majority_or_not xs zero = inr (λ k lt some most. omega (arith, lt))
majority_or_not xs (suc i) =
    elim (majority_or_not xs i) [
      | inl found ↦ inl found
      | inr none ↦
          elim (cases_lt 0 (get_or xs i 0)) [
            | inl some ↦
                elim (cases_lt 32 (copies (get_or xs i 0) xs)) [
                  | inl most ↦ inl (get_or xs i 0, some, omega (arith, most))
                  | inr few ↦
                      inr (λ k lt positive many.
                      elim (cases_eq k i) [
                        | inl here ↦
                            let more : 33 ≤ copies (get_or xs i 0) xs = subst (λ (j : ℕ). 33 ≤ copies (get_or xs j 0) xs) here many in
                            omega (arith, more, few)
                        | inr before ↦ none k (omega (arith, lt, before)) positive many
                      ])
                ]
            | inr zero_there ↦
                inr (λ k lt positive many.
                elim (cases_eq k i) [
                  | inl here ↦
                      let more : 0 < get_or xs i 0 = subst (λ (j : ℕ). 0 < get_or xs j 0) here positive in
                      omega (arith, more, zero_there)
                  | inr before ↦ none k (omega (arith, lt, before)) positive many
                ])
          ]
    ]

pub number_or_not : (bytes : List ℕ) → ((n : ℕ) × HasNumber bytes n) ⊎ ((n : ℕ) → HasNumber bytes n → ⊥)
number_or_not bytes =
    elim (majority_or_not (gate_numbers bytes) (length (gate_numbers bytes))) [
      | inl found ↦ inl (found.0, record { some = found.1; most = found.2 })
      | inr none ↦ inr (λ n is. no_majority (gate_numbers bytes) (length (gate_numbers bytes)) (omega arith) none n is.some is.most)
    ]
