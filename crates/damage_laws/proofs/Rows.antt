-- Rows of sectors in which a burst has changed some bits.
use Rattle.damage_laws.proofs.Names.{[], ℕ, List, length, get_or, take, drop, zero, suc, ap, refl, subst, sym, inl, inr, arith, cases_eq, cases_lt}
use Rattle.damage_laws.proofs.Names.{append_assoc, drop_at, get_or-append_right, get_or_append_left, length-append, take_at, All-append, All-nil, All, Image}
use Rattle.damage_laws.proofs.Names.{IsWhole, sectors_from, DifferInBurst, IsRow, row_bit, IsDamaged, bit_at, are_bytes, same_byte, same_lists, get_or_default}
use Rattle.damage_laws.proofs.Names.{get_or_past, one_from}
use Rattle.std.proofs.Common.{◌≡◌, ◌⊎◌, ◌+◌, ◌-◌, ◌*◌, ◌/◌, ◌%◌, ◌<◌, ◌≤◌, ◌++◌, ◌∷◌, ◌∙◌}

-- two rows are equal or not
pub same_or_not : (xs ys : List ℕ) → (xs ≡ ys) ⊎ (xs ≡ ys → ⊥)
same_or_not [] [] = inl refl
same_or_not [] (y ∷ ys) = inr (λ e. cc)
same_or_not (x ∷ xs) [] = inr (λ e. cc)
same_or_not (x ∷ xs) (y ∷ ys) =
    elim (cases_eq x y) [
      | inl head ↦
          elim (same_or_not xs ys) [
            | inl rest ↦ inl (ap (λ (n : ℕ). n ∷ xs) head ∙ ap (λ (ns : List ℕ). y ∷ ns) rest)
            | inr other ↦ inr (λ e. other (ap (λ (ns : List ℕ). drop 1 ns) e))
          ]
      | inr other ↦ inr (λ e. other (ap (λ (ns : List ℕ). get_or ns 0 0) e))
    ]

-- ---- the sectors of a device as a row

pub split_at : (image : Image) (at n k : ℕ) → k < n →
    sectors_from image at n ≡ sectors_from image at k ++ (image (at + k) ++ sectors_from image (at + k + 1) (n - k - 1))
unfolding sectors_from
split_at image at zero k lt = absurd (omega (arith, lt))
split_at image at (suc n) zero lt =
    let here : at ≡ at + 0 = omega arith in
    let rest : n ≡ suc n - 0 - 1 = omega arith in
    ap (λ (i : ℕ). image i ++ sectors_from image (i + 1) n) here ∙ ap (λ (m : ℕ). image (at + 0) ++ sectors_from image (at + 0 + 1) m) rest
split_at image at (suc n) (suc k) lt =
    let here : at + 1 + k ≡ at + suc k = omega arith in
    let rest : n - k - 1 ≡ suc n - suc k - 1 = omega arith in
    ap (λ (r : List ℕ). image at ++ r) (split_at image (at + 1) n k (omega (arith, lt)))
    ∙ ap (λ (i : ℕ). image at ++ (sectors_from image (at + 1) k ++ (image i ++ sectors_from image (i + 1) (n - k - 1)))) here
    ∙ ap (λ (m : ℕ). image at ++ (sectors_from image (at + 1) k ++ (image (at + suc k) ++ sectors_from image (at + suc k + 1) m))) rest
    ∙ sym (append_assoc (image at) (sectors_from image (at + 1) k)
    (image (at + suc k) ++ sectors_from image (at + suc k + 1) (suc n - suc k - 1)))

abbrev IsByte : ℕ → Type 0
IsByte b = b < 256

pub record IsShort (n : ℕ) (row : List ℕ) : Type 0 where
  pub bytes : All (λ b. b < 256) row
  pub whole : length row % 4 ≡ 0
  pub size : length row ≤ 512 * n

one_short : (size : ℕ) (image : Image) (i : ℕ) → IsWhole size image → IsShort 1 (image i)
one_short size image i is =
    elim (cases_lt i size) [
      | inl lt ↦ record { bytes = is.bytes i; whole = omega (arith, is.size i lt); size = omega (arith, is.size i lt) }
      | inr past ↦
          let none : length (image i) ≡ 0 = ap (λ (row : List ℕ). length row) (is.nothing_beyond i past) in
          record { bytes = is.bytes i; whole = omega (arith, none); size = omega (arith, none) }
    ]

short : (size : ℕ) (image : Image) (at n : ℕ) → IsWhole size image → IsShort n (sectors_from image at n)
unfolding sectors_from
short size image at zero is = record { bytes = All-nil IsByte; whole = omega arith; size = omega arith }
short size image at (suc n) is =
    let first = one_short size image at is in
    let rest = short size image (at + 1) n is in
    let both = length-append (image at) (sectors_from image (at + 1) n) in
    record {
      bytes = All-append IsByte (image at) (sectors_from image (at + 1) n) first.bytes rest.bytes;
      whole = omega (arith, both, first.whole, rest.whole);
      size = omega (arith, both, first.size, rest.size);
    }

pub sector_row : (size : ℕ) (image : Image) (i : ℕ) → IsWhole size image → IsRow (image i)
sector_row size image i is =
    let it = one_short size image i is in record { bytes = it.bytes; whole = it.whole; size = omega (arith, it.size) }

pub sectors_row : (size : ℕ) (image : Image) (at n : ℕ) → n ≤ 8 → IsWhole size image → IsRow (sectors_from image at n)
sectors_row size image at n few is =
    let it = short size image at n is in record { bytes = it.bytes; whole = it.whole; size = omega (arith, it.size, few) }

-- there is nothing after the last sector
pub nothing_past : (size : ℕ) (image : Image) (at n : ℕ) → IsWhole size image → size ≤ at → sectors_from image at n ≡ []
unfolding sectors_from
nothing_past size image at zero is past = refl
nothing_past size image at (suc n) is past =
    ap (λ (r : List ℕ). r ++ sectors_from image (at + 1) n) (is.nothing_beyond at past)
    ∙ nothing_past size image (at + 1) n is (omega (arith, past))

-- byte q of some sectors
byte_in : (size : ℕ) (image : Image) (at n q : ℕ) → IsWhole size image → q < 512 * n →
    get_or (sectors_from image at n) q 0 ≡ get_or (image (at + q / 512)) (q % 512) 0
unfolding sectors_from
byte_in size image at zero q is lt = absurd (omega (arith, lt))
byte_in size image at (suc n) q is lt =
    elim (cases_lt at size) [
      | inr past ↦
          let there : image (at + q / 512) ≡ [] = is.nothing_beyond (at + q / 512) (omega (arith, past)) in
          ap (λ (row : List ℕ). get_or row q 0) (nothing_past size image at (suc n) is past)
          ∙ sym (ap (λ (row : List ℕ). get_or row (q % 512) 0) there)
      | inl inside ↦
          let long : length (image at) ≡ 512 = is.size at inside in
          elim (cases_lt q 512) [
            | inl first ↦
                let here : at ≡ at + q / 512 = omega (arith, first) in
                let same : q ≡ q % 512 = omega (arith, first) in
                get_or_append_left (image at) (sectors_from image (at + 1) n) 0 q (omega (arith, first, long))
                ∙ ap (λ (i : ℕ). get_or (image i) q 0) here ∙ ap (λ (r : ℕ). get_or (image (at + q / 512)) r 0) same
            | inr later ↦
                let there : at + 1 + (q - 512) / 512 ≡ at + q / 512 = omega (arith, later) in
                let same : (q - 512) % 512 ≡ q % 512 = omega (arith, later) in
                get_or-append_right (image at) (sectors_from image (at + 1) n) 512 q 0 long later
                ∙ byte_in size image (at + 1) n (q - 512) is (omega (arith, lt, later))
                ∙ ap (λ (i : ℕ). get_or (image i) ((q - 512) % 512) 0) there
                ∙ ap (λ (r : ℕ). get_or (image (at + q / 512)) r 0) same
          ]
    ]

bit_in : (size : ℕ) (image : Image) (at n j : ℕ) → IsWhole size image → j < 4096 * n →
    row_bit (sectors_from image at n) j ≡ row_bit (image (at + j / 4096)) (j % 4096)
bit_in size image at n j is lt =
    let sector : at + j / 8 / 512 ≡ at + j / 4096 = omega arith in
    let byte : j / 8 % 512 ≡ j % 4096 / 8 = omega arith in
    let bit : j % 8 ≡ j % 4096 % 8 = omega arith in
    ap (λ (b : ℕ). bit_at b (j % 8)) (byte_in size image at n (j / 8) is (omega (arith, lt)))
    ∙ ap (λ (i : ℕ). bit_at (get_or (image i) (j / 8 % 512) 0) (j % 8)) sector
    ∙ ap (λ (q : ℕ). bit_at (get_or (image (at + j / 4096)) q 0) (j % 8)) byte
    ∙ ap (λ (b : ℕ). bit_at (get_or (image (at + j / 4096)) (j % 4096 / 8) 0) b) bit

-- the middles of two rows whose fronts are equally long
same_middle : (f g x y b c : List ℕ) → length f ≡ length g → length x ≡ length y → f ++ (x ++ b) ≡ g ++ (y ++ c) → x ≡ y
same_middle f g x y b c fronts len e =
    sym (take_at x b (length y) len)
    ∙ ap (take (length y)) (sym (drop_at f (x ++ b) (length g) fronts) ∙ ap (drop (length g)) e ∙ drop_at g (y ++ c) (length g) refl)
    ∙ take_at y c (length y) refl

-- ---- a damaged device

-- the burst reaches into a sector
abbrev pub Touches : ℕ → ℕ → Type 0
Touches bit i = (bit < 4096 * i + 4096) × (4096 * i < bit + 64)

module _ (bit size : ℕ) (old new : Image) (is_old : IsWhole size old) (is_new : IsWhole size new) (damaged : IsDamaged bit old new) where
  same_size : (i : ℕ) → length (old i) ≡ length (new i)
  same_size i =
      elim (cases_lt i size) [
        | inl lt ↦ is_old.size i lt ∙ sym (is_new.size i lt)
        | inr past ↦ ap length (is_old.nothing_beyond i past ∙ sym (is_new.nothing_beyond i past))
      ]

  same_sizes : (at n : ℕ) → length (sectors_from old at n) ≡ length (sectors_from new at n)
  unfolding sectors_from
  same_sizes at zero = refl
  same_sizes at (suc n) =
      omega (
        arith,
        length-append (old at) (sectors_from old (at + 1) n),
        length-append (new at) (sectors_from new (at + 1) n),
        same_size at,
        same_sizes (at + 1) n,
      )

  -- bit j of some sectors is unchanged if it lies outside the burst
  outside : (at n j : ℕ) → (4096 * at + j < bit) ⊎ (bit + 64 ≤ 4096 * at + j) →
      row_bit (sectors_from old at n) j ≡ row_bit (sectors_from new at n) j
  outside at n j where_ =
      elim (cases_lt j (4096 * n)) [
        | inl lt ↦
            let i : ℕ = at + j / 4096 in
            let place : 4096 * i + j % 4096 ≡ 4096 * at + j = omega arith in
            let same : row_bit (new i) (j % 4096) ≡ row_bit (old i) (j % 4096) =
            elim where_ [
              | inl before ↦ damaged.before i (j % 4096) (omega arith) (omega (arith, before, place))
              | inr after ↦ damaged.after i (j % 4096) (omega arith) (omega (arith, after, place))
            ] in
            bit_in size old at n j is_old lt ∙ sym same ∙ sym (bit_in size new at n j is_new lt)
        | inr past ↦
            let first = (short size old at n is_old).size in
            let second = (short size new at n is_new).size in
            ap (λ (b : ℕ). bit_at b (j % 8)) (get_or_past (sectors_from old at n) (j / 8) 0 (omega (arith, past, first))
            ∙ sym (get_or_past (sectors_from new at n) (j / 8) 0 (omega (arith, past, second))))
      ]

  -- some sectors differ by a burst
  pub sectors_burst : (at n : ℕ) → DifferInBurst (bit - 4096 * at) (sectors_from old at n) (sectors_from new at n)
  sectors_burst at n = record {
    size = same_sizes at n;
    before = λ j lt. outside at n j (inl (omega (arith, lt)));
    after = λ j ge. outside at n j (inr (omega (arith, ge)));
  }

  pub sector_burst : (i : ℕ) → DifferInBurst (bit - 4096 * i) (old i) (new i)
  sector_burst i =
      subst (λ (row : List ℕ). DifferInBurst (bit - 4096 * i) row (new i)) (one_from old i)
      (subst (λ (row : List ℕ). DifferInBurst (bit - 4096 * i) (sectors_from old i 1) row) (one_from new i) (sectors_burst i 1))

  -- a sector that the burst doesn't reach is unchanged
  pub untouched : (i : ℕ) → (4096 * i + 4096 ≤ bit) ⊎ (bit + 64 ≤ 4096 * i) → new i ≡ old i
  untouched i where_ =
      let row_old = sector_row size old i is_old in
      let row_new = sector_row size new i is_new in
      let long = (one_short size old i is_old).size in
      sym (same_lists (old i) (new i) (same_size i) (λ q d lt.
      let byte : get_or (old i) q 0 ≡ get_or (new i) q 0 =
      same_byte (old i) (new i) q (are_bytes (old i) row_old.bytes) (are_bytes (new i) row_new.bytes) (λ j few.
      elim where_ [
        | inl before ↦ sym (damaged.before i (8 * q + j) (omega (arith, lt, long, few)) (omega (arith, before, lt, long, few)))
        | inr after ↦ sym (damaged.after i (8 * q + j) (omega (arith, lt, long, few)) (omega (arith, after)))
      ]) in
      get_or_default (old i) q d 0 lt ∙ byte ∙ sym (get_or_default (new i) q d 0 (omega (arith, lt, same_size i)))))

  pub touched_or_same : (i : ℕ) → Touches bit i ⊎ (new i ≡ old i)
  touched_or_same i =
      elim (cases_lt bit (4096 * i + 4096)) [
        | inl low ↦
            elim (cases_lt (4096 * i) (bit + 64)) [
              | inl high ↦ inl (low, high)
              | inr after ↦ inr (untouched i (inr after))
            ]
        | inr before ↦ inr (untouched i (inl before))
      ]

  -- if the burst reaches into a sector, the sectors that aren't beside it are unchanged
  pub far : (h i : ℕ) → Touches bit h → (i + 2 ≤ h) ⊎ (h + 2 ≤ i) → new i ≡ old i
  far h i touches (inl before) = untouched i (inl (omega (arith, touches.0, touches.1, before)))
  far h i touches (inr after) = untouched i (inr (omega (arith, touches.0, touches.1, after)))

  -- a sector is unchanged if no two rows that differ by a burst may stand there
  pub same_at : (i : ℕ) → ((b : ℕ) → IsRow (old i) → IsRow (new i) → DifferInBurst b (old i) (new i) → old i ≡ new i) → new i ≡ old i
  same_at i shows = sym (shows (bit - 4096 * i) (sector_row size old i is_old) (sector_row size new i is_new) (sector_burst i))

  -- the same of n sectors as one row
  pub same_in : (at n k : ℕ) → n ≤ 8 → k < n →
      ((b : ℕ) → IsRow (sectors_from old at n) → IsRow (sectors_from new at n)
      → DifferInBurst b (sectors_from old at n) (sectors_from new at n) → sectors_from old at n ≡ sectors_from new at n)
      → new (at + k) ≡ old (at + k)
  same_in at n k few lt shows =
      let row_old = sectors_row size old at n few is_old in
      let row_new = sectors_row size new at n few is_new in
      let same = shows (bit - 4096 * at) row_old row_new (sectors_burst at n) in
      sym (same_middle (sectors_from old at k) (sectors_from new at k) (old (at + k)) (new (at + k))
      (sectors_from old (at + k + 1) (n - k - 1)) (sectors_from new (at + k + 1) (n - k - 1)) (same_sizes at k) (same_size (at + k))
      (sym (split_at old at n k lt) ∙ same ∙ split_at new at n k lt))
