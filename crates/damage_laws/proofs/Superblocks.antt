-- A damaged superblock of version 3 is no superblock of any version.
use Rattle.damage_laws.proofs.Names.{ℕ, List, [], length, get_or, take, drop, ap, refl, sym, inl, inr, arith, Bool, true, false, cases_Bool, cases_lt}
use Rattle.damage_laws.proofs.Names.{drop-drop, drop-replicate, drop_at, get_or-drop, get_or-take, get_or_default, length-drop, same_lists, little_number}
use Rattle.damage_laws.proofs.Names.{half_number, number, zeros, HasEnd, HasMark, IsPlan, Plan, sector_with, superblock_bytes, superblock_front, version_number}
use Rattle.damage_laws.proofs.Names.{row, Version, One, Two, Three, stream, superblocks_show, eight_ranges, end_of, few_versions, front_long, magic, numbers_of}
use Rattle.damage_laws.proofs.Names.{plan_stream, second_of, superblock_sealed, ranges_bytes, DifferInBurst, IsRow, body_of, numbers, sums_bytes, sums_of}
use Rattle.damage_laws.proofs.Names.{weighted, Sums, are_bytes, same_byte, bursts_break, body_row, length_body, row_words, number_there, one_spelling}
use Rattle.damage_laws.proofs.Names.{zero_bytes}
use Rattle.std.proofs.Common.{◌≡◌, ◌+◌, ◌-◌, ◌*◌, ◌%◌, ◌<◌, ◌≤◌, ◌++◌, ◌∷◌, ◌∙◌}

-- ---- bytes outside a burst

module _ (bit : ℕ) (x y : List ℕ) (rx : IsRow x) (ry : IsRow y) (burst : DifferInBurst bit x y) where
  pub byte_before : (q : ℕ) → 8 * q + 8 ≤ bit → get_or x q 0 ≡ get_or y q 0
  byte_before q le =
      same_byte x y q (are_bytes x rx.bytes) (are_bytes y ry.bytes) (λ j lt. burst.before (8 * q + j) (omega (arith, le, lt)))

  pub byte_after : (q : ℕ) → bit + 64 ≤ 8 * q → get_or x q 0 ≡ get_or y q 0
  byte_after q le =
      same_byte x y q (are_bytes x rx.bytes) (are_bytes y ry.bytes) (λ j lt. burst.after (8 * q + j) (omega (arith, le)))

  tail_same : (n : ℕ) → bit + 64 ≤ 8 * n → drop n x ≡ drop n y
  tail_same n le =
      same_lists (drop n x) (drop n y) (length-drop n x ∙ ap (λ (m : ℕ). m - n) burst.size ∙ sym (length-drop n y)) (λ k d lt.
      let inside : k < length (drop n y) = omega (arith, lt, length-drop n x, length-drop n y, burst.size) in
      get_or_default (drop n x) k d 0 lt ∙ get_or-drop n x k 0 ∙ byte_after (n + k) (omega (arith, le)) ∙ sym (get_or-drop n y k 0)
      ∙ get_or_default (drop n y) k 0 d inside)

-- ---- numbers of a superblock

-- what follows the first two numbers of a superblock
abbrev rest_of : Plan → List ℕ
rest_of p = stream (numbers_of p) (ranges_bytes (eight_ranges p.ranges) ++ end_of p)

-- byte 8 is the number of the version
version_there : (p : Plan) → length p.ranges ≤ 8 → get_or (superblock_bytes p) 8 0 ≡ version_number p.version
unfolding number
version_there p few =
    let e : superblock_bytes p ≡ number magic ++ (number (second_of p) ++ rest_of p) = plan_stream p few in
    let byte : second_of p % 256 ≡ version_number p.version = omega (arith, few, few_versions p.version) in
    ap (λ (b : List ℕ). get_or b 8 0) e ∙ byte

-- the first byte is that of `E`
first_there : (p : Plan) → length p.ranges ≤ 8 → get_or (superblock_bytes p) 0 0 ≡ 69
unfolding number
first_there p few =
    let e : superblock_bytes p ≡ number magic ++ (number (second_of p) ++ rest_of p) = plan_stream p few in
    ap (λ (b : List ℕ). get_or b 0 0) e

sealed_number : (v : Version) → (row v).sealed ≡ true → version_number v ≡ 3
sealed_number One is = absurd (cc is)
sealed_number Two is = absurd (cc is)
sealed_number Three is = refl

unsealed_number : (v : Version) → (row v).sealed ≡ false → version_number v ≤ 2
unsealed_number One is = omega arith
unsealed_number Two is = omega arith
unsealed_number Three is = absurd (cc is)

-- ---- sums of a row that isn't zeros

first_counts : (hs : List ℕ) → get_or hs 0 0 ≤ weighted (λ k. 1) hs
first_counts [] = omega arith
first_counts (h ∷ hs) = omega arith

four_bytes : (row : List ℕ) → get_or row 0 0 ≤ little_number 4 (drop 0 row)
four_bytes row = omega (arith, get_or-drop 0 row 0 0)

some_sums : (row : List ℕ) → 4 ≤ length row → 0 < get_or row 0 0 → sums_of row ≡ record { a = 0; b = 0; c = 0 } → ⊥
unfolding sums_of
some_sums row long some none =
    let a : weighted (λ k. 1) (numbers row) ≡ 0 = ap (λ (s : Sums). s.a) none in
    omega (arith, a, some, four_bytes row, number_there row 0 (omega (arith, long)), first_counts (numbers row))

-- ---- a superblock of version 3 and another row

module _ (bit : ℕ) (x y : List ℕ) (p : Plan) (rx : IsRow x) (ry : IsRow y) (size : length x ≡ 512) (burst : DifferInBurst bit x y)
    (few : length p.ranges ≤ 8) (is_x : x ≡ superblock_bytes p) (sealed : (row p.version).sealed ≡ true) where
  -- if the burst lies behind the version, both have one version
  pub same_version : 72 ≤ bit → get_or y 8 0 ≡ 3
  same_version late =
      sym (byte_before bit x y rx ry burst 8 (omega (arith, late))) ∙ ap (λ (b : List ℕ). get_or b 8 0) is_x ∙ version_there p few
      ∙ sealed_number p.version sealed

  -- if not, both have one seal, which isn't zeros
  pub same_seal : bit < 72 → drop 488 y ≡ zeros 24 → ⊥
  unfolding zeros
  same_seal early none =
      let body : List ℕ = body_of x in
      let row_body : IsRow body = body_row x (omega (arith, size)) rx in
      let tail : drop 488 x ≡ sums_bytes (sums_of body) =
      ap (λ (n : ℕ). drop (n - 24) x) (sym size) ∙ superblock_sealed x p sealed is_x in
      let blank : sums_bytes (sums_of body) ≡ sums_bytes (record { a = 0; b = 0; c = 0 }) =
      sym tail ∙ tail_same bit x y rx ry burst 488 (omega (arith, early)) ∙ none ∙ sym zero_bytes in
      let zero : sums_of body ≡ record { a = 0; b = 0; c = 0 } =
      one_spelling (sums_of body) (record { a = 0; b = 0; c = 0 }) (row_words body row_body)
      (record { a = omega arith; b = omega arith; c = omega arith }) blank in
      let first : get_or body 0 0 ≡ 69 =
      get_or-take (length x - 24) x 0 0 (omega (arith, size)) ∙ ap (λ (b : List ℕ). get_or b 0 0) is_x ∙ first_there p few in
      some_sums body (omega (arith, length_body x, size)) (omega (arith, first)) zero

  -- so a row with a lower version and zeros in place of the seal differs by more than a burst
  pub no_version : get_or y 8 0 ≤ 2 → drop 488 y ≡ zeros 24 → ⊥
  no_version low none =
      elim (cases_lt bit 72) [
        | inl early ↦ same_seal early none
        | inr late ↦ omega (arith, same_version late, low)
      ]

  -- ---- a row with the mark of a superblock

  first_byte : (n : ℕ) → get_or (half_number n) 0 0 ≡ n % 256
  unfolding half_number
  first_byte n = refl

  marked_version : (v : Version) → take 4 (drop 8 y) ≡ half_number (version_number v) → get_or y 8 0 ≡ version_number v
  marked_version v is =
      let byte : version_number v % 256 ≡ version_number v = omega (arith, few_versions v) in
      sym (get_or-drop 8 y 0 0) ∙ sym (get_or-take 4 (drop 8 y) 0 0 (omega arith)) ∙ ap (λ (b : List ℕ). get_or b 0 0) is
      ∙ first_byte (version_number v) ∙ byte

  zeros_behind : drop 256 y ≡ zeros 256 → drop 488 y ≡ zeros 24
  unfolding zeros
  zeros_behind is = sym (drop-drop 232 256 y) ∙ ap (drop 232) is ∙ drop-replicate 232 256 0

  marked_by : (v : Version) → take 4 (drop 8 y) ≡ half_number (version_number v) → (sealed : Bool) → (row v).sealed ≡ sealed →
      HasEnd sealed y → x ≡ y
  marked_by v is true has ends = bursts_break bit x y rx ry burst (superblock_sealed x p sealed is_x) ends.1
  marked_by v is false has ends =
      let low = unsealed_number v has in
      absurd (no_version (omega (arith, marked_version v is, low)) (zeros_behind ends))

  -- if the other row has the mark of a superblock, both are equal
  pub marked_same : HasMark y → x ≡ y
  marked_same mark = marked_by mark.version.0 mark.version.1 (row mark.version.0).sealed refl mark.blank

-- if two rows differ by a burst, and one is a superblock of version 3, the other is no superblock
pub superblock_shows : (bit : ℕ) (x y : List ℕ) (p q : Plan) → IsRow x → IsRow y → length x ≡ 512 → DifferInBurst bit x y → IsPlan p →
    IsPlan q → (row p.version).sealed ≡ true → x ≡ superblock_bytes p → y ≡ superblock_bytes q → x ≡ y
unfolding superblock_bytes
superblock_shows bit x y p q rx ry size burst fits_p fits_q sealed is_x is_y =
    elim (cases_Bool (row q.version).sealed) [
      | inl too ↦ superblocks_show bit x y p q rx ry burst sealed too is_x is_y
      | inr unsealed ↦
          let e : y ≡ superblock_front q ++ zeros 256 = is_y ∙ ap (λ (s : Bool). sector_with s (superblock_front q)) unsealed in
          let byte : get_or y 8 0 ≡ version_number q.version =
          ap (λ (b : List ℕ). get_or b 8 0) is_y ∙ version_there q fits_q.few in
          let low = unsealed_number q.version unsealed in
          absurd (no_version bit x y p rx ry size burst fits_p.few is_x sealed (omega (arith, byte, low))
          (zeros_behind bit x y p rx ry size burst fits_p.few is_x sealed
          (ap (drop 256) e ∙ drop_at (superblock_front q) (zeros 256) 256 (front_long q fits_q.few))))
    ]
