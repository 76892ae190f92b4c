-- Sectors, some of which are stored, and the bytes of all.
use Rattle.devices.proofs.Names.{nat_tests, ℕ, List, [], Option, Some, None, All, length, take, drop, replicate, refl, sym, ap, arith, inl, inr, length-append}
use Rattle.devices.proofs.Names.{length-take-le, take-append-le, length-replicate, drop-drop, take-add, cases_lt, length-drop, zero, suc, subst, false}
use Rattle.devices.proofs.Names.{image_of, sectors_of, AreSectors, Elsewhere, AreWhole, IsSector, bytes_of, item_at, is_some, get_or, Fits, w8, get_or_default}
use Rattle.devices.proofs.Names.{drop_all, take_all, replicate-append-replicate, drop-append-add, All-append, All-replicate}
use Rattle.std.proofs.Common.{◌≡◌, ◌≢◌, ◌<◌, ◌≤◌, ◌+◌, ◌*◌, ◌/◌, ◌%◌, ◌∷◌, ◌++◌, ◌∙◌}
unfoldable use Rattle.devices.specs.SectorCopy.{bytes_in}

abbrev pub Stored : Type 0
Stored = List (Option (List ℕ))

-- if all sectors are whole, so are those after the first
rest_whole : (x : Option (List ℕ)) (xs : Stored) → AreWhole (x ∷ xs) → AreWhole xs
rest_whole x xs whole k = whole (suc k)

pub length_bytes : (xs : Stored) → AreWhole xs → length (bytes_in xs) ≡ 512 * length xs
unfolding bytes_in
length_bytes [] whole = refl
length_bytes (x ∷ xs) whole =
    length-append (bytes_of x) (bytes_in xs) ∙ omega (arith, (whole 0).size, length_bytes xs (rest_whole x xs whole))

pub bytes_fit : (xs : Stored) → AreWhole xs → All (λ b. b < 256) (bytes_in xs)
unfolding bytes_in
bytes_fit [] whole = λ k d within. absurd (omega (arith, within))
bytes_fit (x ∷ xs) whole = All-append (λ b. b < 256) (bytes_of x) (bytes_in xs) (whole 0).fits (bytes_fit xs (rest_whole x xs whole))

-- sector i of the bytes is sector i of the list
pub image_is : (xs : Stored) → AreWhole xs → (i : ℕ) → i < length xs → image_of (bytes_in xs) i ≡ bytes_of (item_at xs i)
unfolding bytes_in
image_is [] whole i within = absurd (omega (arith, within))
image_is (x ∷ xs) whole zero within =
    take-append-le 512 (bytes_of x) (bytes_in xs) (omega (arith, (whole 0).size))
    ∙ take_all 512 (bytes_of x) (omega (arith, (whole 0).size))
image_is (x ∷ xs) whole (suc i) within =
    let place : 512 * suc i ≡ length (bytes_of x) + 512 * i = omega (arith, (whole 0).size) in
    ap (λ (n : ℕ). take 512 (drop n (bytes_of x ++ bytes_in xs))) place
    ∙ ap (λ (l : List ℕ). take 512 l) (drop-append-add (bytes_of x) (bytes_in xs) (512 * i))
    ∙ image_is xs (rest_whole x xs whole) i (omega (arith, within))

-- past the last sector the image is empty
image_past : (xs : Stored) → AreWhole xs → (i : ℕ) → length xs ≤ i → image_of (bytes_in xs) i ≡ []
image_past xs whole i past = grind (arith, nat_tests, drop_all, length_bytes)

bytes_of_none : (o : Option (List ℕ)) → false ≡ is_some o → bytes_of o ≡ replicate 512 0
bytes_of_none o none = grind (arith, nat_tests)

-- facts about sectors, some of which are stored, and their bytes v
module _ (xs : Stored) (whole : AreWhole xs) (v : List ℕ) (view : bytes_in xs ≡ v) where
  pub count_is : length v ≡ 512 * length xs
  count_is = sym (ap length view) ∙ length_bytes xs whole

  pub is_within : (at : ℕ) → 512 * (at + 1) ≤ length v → at < length xs
  is_within at inside = omega (arith, inside, count_is)

  pub fits : All (λ b. b < 256) v
  fits = subst (All (λ b. b < 256)) view (bytes_fit xs whole)

  pub sector_is : (at : ℕ) → 512 * (at + 1) ≤ length v → image_of v at ≡ bytes_of (item_at xs at)
  sector_is at inside = ap (λ (l : List ℕ). image_of l at) (sym view) ∙ image_is xs whole at (is_within at inside)

  pub stored_is : (at : ℕ) → 512 * (at + 1) ≤ length v → (sector : List ℕ) → item_at xs at ≡ Some sector → sector ≡ image_of v at
  stored_is at inside sector is = sym (sector_is at inside ∙ ap bytes_of is)

  pub zeros_are_there : (at : ℕ) → 512 * (at + 1) ≤ length v → false ≡ is_some (item_at xs at) → replicate 512 0 ≡ image_of v at
  zeros_are_there at inside none = sym (sector_is at inside ∙ bytes_of_none (item_at xs at) none)

-- 512 bytes of a slice form a sector
pub is_sector : (bytes : List ℕ) → length bytes ≡ 512 → ((i : ℕ) → Fits w8 (get_or bytes i 0)) → IsSector bytes
is_sector bytes size small = record { size = size; fits = λ k d within. omega (arith, get_or_default bytes k d 0 within, small k) }

-- the effect of replacing a sector
pub record IsPut (v : List ℕ) (at : ℕ) (sector : List ℕ) (ys : Stored) : Type 0 where
  pub whole : AreWhole ys
  pub here : image_of (bytes_in ys) at ≡ sector
  pub others : Elsewhere at 1 (image_of v) (image_of (bytes_in ys))
  pub length : length (bytes_in ys) ≡ length v
  pub fits : All (λ b. b < 256) (bytes_in ys)

module _ (xs : Stored) (was : AreWhole xs) (v : List ℕ) (view : bytes_in xs ≡ v) (ys : Stored) (at : ℕ) (sector : List ℕ)
    (inside : 512 * (at + 1) ≤ length v) (is : IsSector sector) (here : bytes_of (item_at ys at) ≡ sector)
    (others : (i : ℕ) → i ≢ at → item_at ys i ≡ item_at xs i) (same : length ys ≡ length xs) where
  now : AreWhole ys
  now k = grind (arith, nat_tests)

  apart : (i : ℕ) → i ≢ at → image_of (bytes_in ys) i ≡ image_of v i
  apart i other = grind (arith, nat_tests, image_is, now, image_past)

  pub is_put : IsPut v at sector ys
  is_put = grind (arith, nat_tests, now, image_is, is_within, apart, length_bytes, count_is, bytes_fit)

-- if no sector is stored, sector k isn't
none_at : (n k : ℕ) → item_at {T = List ℕ} (replicate n None) k ≡ None
none_at zero k = refl
none_at (suc n) zero = refl
none_at (suc n) (suc k) = none_at n k

zeros_whole : IsSector (replicate 512 0)
zeros_whole = record { size = length-replicate {A = ℕ} 512 0; fits = All-replicate {X = ℕ} (λ b. b < 256) 512 0 (omega arith) }

pub none_whole : (n : ℕ) → AreWhole (replicate n None)
none_whole n k = subst (λ (o : Option (List ℕ)). IsSector (bytes_of o)) (sym (none_at n k)) zeros_whole

pub none_zeros : (n : ℕ) → bytes_in (replicate n None) ≡ replicate (512 * n) 0
unfolding bytes_in
none_zeros zero = refl
none_zeros (suc n) =
    ap (λ (l : List ℕ). replicate 512 0 ++ l) (none_zeros n) ∙ replicate-append-replicate 512 (512 * n) 0
    ∙ ap (λ (m : ℕ). replicate m 0) (omega arith)

-- a sector within the bytes has 512 bytes
pub image_size : (v : List ℕ) (at : ℕ) → 512 * (at + 1) ≤ length v → length (image_of v at) ≡ 512
image_size v at inside = length-take-le 512 (drop (512 * at) v) (omega (arith, inside, length-drop (512 * at) v))

-- if the first n sectors are equal, so are the first 512 n bytes
pub same_front : (xs ys : List ℕ) (n : ℕ) → ((i : ℕ) → i < n → image_of ys i ≡ image_of xs i) → take (512 * n) ys ≡ take (512 * n) xs
same_front xs ys zero same = refl
same_front xs ys (suc n) same =
    let more : 512 * suc n ≡ 512 * n + 512 = omega arith in
    ap (λ (m : ℕ). take m ys) more ∙ take-add (512 * n) 512 ys
    ∙ ap (λ (l : List ℕ). l ++ image_of ys n) (same_front xs ys n (λ i lt. same i (omega (arith, lt))))
    ∙ ap (λ (l : List ℕ). take (512 * n) xs ++ l) (same n (omega arith))
    ∙ sym (take-add (512 * n) 512 xs) ∙ ap (λ (m : ℕ). take m xs) (sym more)

pub same_sectors : (xs ys : List ℕ) → length ys ≡ length xs → length xs % 512 ≡ 0 →
    ((i : ℕ) → i < sectors_of xs → image_of ys i ≡ image_of xs i) → ys ≡ xs
same_sectors xs ys size whole same =
    let n = sectors_of xs in
    sym (take_all (512 * n) ys (omega (arith, size, whole))) ∙ same_front xs ys n same ∙ take_all (512 * n) xs (omega (arith, whole))

-- if all sectors were written over zeros, the bytes are those written
pub all_put : (bytes zeros new : List ℕ) → length bytes % 512 ≡ 0 → zeros ≡ replicate (512 * (length bytes / 512)) 0 →
    length new ≡ length zeros → AreSectors (image_of new) 0 bytes → new ≡ bytes
all_put bytes zeros new whole is same written = grind (arith, nat_tests, length-replicate, same_sectors)

-- bytes 512 i to 512 i + 511 of a list are its sector i
pub part_is : (bytes : List ℕ) (i a k : ℕ) → a ≡ 512 * i → k ≡ 512 → take k (drop a bytes) ≡ image_of bytes i
part_is bytes i a k a_is k_is = ap (λ (n : ℕ). take n (drop a bytes)) k_is ∙ ap (λ (n : ℕ). take 512 (drop n bytes)) a_is

-- if i sectors were written, and then the next, i + 1 are written
pub put_more : (mid new from part : List ℕ) (at i : ℕ) → ((j : ℕ) → j < i → image_of from j ≡ image_of mid (at + j)) →
    part ≡ image_of from i → image_of new (at + i) ≡ part → Elsewhere (at + i) 1 (image_of mid) (image_of new)
    → (j : ℕ) → j < i + 1 → image_of from j ≡ image_of new (at + j)
put_more mid new from part at i was part_is here others j below = grind (arith, nat_tests)

-- if i sectors were read, and then the next, i + 1 are read
pub got_more : (v mid new sector : List ℕ) (at i : ℕ) → ((j : ℕ) → j < i → image_of mid j ≡ image_of v (at + j)) →
    sector ≡ image_of v (at + i) → length sector ≡ 512 → AreSectors (image_of new) i sector →
    Elsewhere i (sectors_of sector) (image_of mid) (image_of new)
    → (j : ℕ) → j < i + 1 → image_of new j ≡ image_of v (at + j)
got_more v mid new sector at i was is size written others j below = elim (cases_lt j i) [
  | inl before ↦ others.before j before ∙ was j before
  | inr past ↦
      let last : i ≡ j = omega (arith, below, past) in
      ap (λ (n : ℕ). image_of new n) (omega (arith, last)) ∙ sym (written 0 (omega (arith, size)))
      ∙ take_all 512 sector (omega (arith, size)) ∙ is ∙ ap (λ (n : ℕ). image_of v (at + n)) last
]

-- after a write of whole sectors at `at`, the bytes up to its end are the old ones before `at`, then the written ones
pub front_part : (old new part : List ℕ) (at : ℕ) → length part % 512 ≡ 0 → AreSectors (image_of new) at part
    → Elsewhere at (sectors_of part) (image_of old) (image_of new) → take (512 * at + length part) new ≡ take (512 * at) old ++ part
front_part old new part at whole written others =
    let n = sectors_of part in
    let behind : take (512 * n) (drop (512 * at) new) ≡ take (512 * n) part = grind (arith, nat_tests, same_front, drop-drop) in
    take-add (512 * at) (length part) new ∙ ap (λ (l : List ℕ). l ++ take (length part) (drop (512 * at) new))
    (same_front old new at others.before)
    ∙ ap (λ (l : List ℕ). take (512 * at) old ++ l)
    (ap (λ (m : ℕ). take m (drop (512 * at) new)) (omega (arith, whole)) ∙ behind ∙ take_all (512 * n) part (omega (arith, whole)))
