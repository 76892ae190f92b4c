-- Whole blocks: the sectors that objects are read from.
use Rattle.migrator.proofs.Names.{ℕ, zero, suc, Option, Some, None, List, [], length, take, drop, true, refl, sym, ap, arith, Image, Entry, Plan, IsPlan}
use Rattle.migrator.proofs.Names.{IsObject, IsDirectory, count_of, row, home_place, place_length, sectors_from, slot_beside, frame_slot_in, sector_or}
use Rattle.migrator.proofs.Names.{slot_sector, sealed_frame_slot, drop_at, IsGathered, one_length, shape_bytes, shape_of, halves_within, places_within, take_at}
use Rattle.migrator.proofs.Names.{frame_sector, block_in}
use Rattle.std.proofs.Common.{◌≡◌, ◌+◌, ◌<◌, ◌≤◌, ◌∷◌, ◌++◌, ◌∙◌}
use Rattle.std.specs.Prelude.{if◌then◌else◌, ◌==◌}
use Rattle.migrator.proofs.PlacesApart.{frame_slot_fits, place_inside}

-- ---- the sectors of two blocks

-- equal sectors have equal bytes
pub same_bytes : (old new : Image) (a b n : ℕ) → ((i : ℕ) → i < n → new (a + i) ≡ old (b + i)) → sectors_from new a n ≡ sectors_from old b n
unfolding sectors_from
same_bytes old new a b zero same = refl
same_bytes old new a b (suc n) same =
    let here : a + 0 ≡ a = omega arith in
    let there : b + 0 ≡ b = omega arith in
    let first : new a ≡ old b = ap new (sym here) ∙ same 0 (omega arith) ∙ ap old there in
    let rest : sectors_from new (a + 1) n ≡ sectors_from old (b + 1) n = same_bytes old new (a + 1) (b + 1) n (λ i lt.
    let left : a + 1 + i ≡ a + suc i = omega arith in
    let right : b + suc i ≡ b + 1 + i = omega arith in
    ap new left ∙ same (suc i) (omega (arith, lt)) ∙ ap old right) in
    ap (λ (xs : List ℕ). xs ++ sectors_from new (a + 1) n) first ∙ ap (λ (xs : List ℕ). old b ++ xs) rest

-- all these sectors have 512 bytes
abbrev pub AreLong : Image → ℕ → ℕ → Type 0
AreLong image a n = (i : ℕ) → i < n → length (image (a + i)) ≡ 512

long_rest : (image : Image) (a n : ℕ) → AreLong image a (suc n) → AreLong image (a + 1) n
long_rest image a n long i lt =
    let place : a + 1 + i ≡ a + suc i = omega arith in
    ap (λ (k : ℕ). length (image k)) place ∙ long (suc i) (omega (arith, lt))

long_first : (image : Image) (a n : ℕ) → AreLong image a (suc n) → length (image a) ≡ 512
long_first image a n long = let place : a ≡ a + 0 = omega arith in ap (λ (k : ℕ). length (image k)) place ∙ long 0 (omega arith)

-- equal bytes are equal sectors
pub same_each : (old new : Image) (a b n : ℕ) → AreLong new a n → AreLong old b n → sectors_from new a n ≡ sectors_from old b n →
    (i : ℕ) → i < n → new (a + i) ≡ old (b + i)
unfolding sectors_from
same_each old new a b zero long_a long_b same i lt = absurd (omega (arith, lt))
same_each old new a b (suc n) long_a long_b same zero lt =
    let here : a + 0 ≡ a = omega arith in
    let there : b ≡ b + 0 = omega arith in
    ap new here ∙ sym (take_at (new a) (sectors_from new (a + 1) n) 512 (long_first new a n long_a)) ∙ ap (take 512) same
    ∙ take_at (old b) (sectors_from old (b + 1) n) 512 (long_first old b n long_b) ∙ ap old there
same_each old new a b (suc n) long_a long_b same (suc i) lt =
    let left : a + suc i ≡ a + 1 + i = omega arith in
    let right : b + 1 + i ≡ b + suc i = omega arith in
    let rest = sym (drop_at (new a) (sectors_from new (a + 1) n) 512 (long_first new a n long_a)) ∙ ap (drop 512) same
    ∙ drop_at (old b) (sectors_from old (b + 1) n) 512 (long_first old b n long_b) in
    ap new left ∙ same_each old new (a + 1) (b + 1) n (long_rest new a n long_a) (long_rest old b n long_b) rest i (omega (arith, lt))
    ∙ ap old right

-- ---- where a block is read

pub block_home : (p : Plan) (generation : ℕ) (es : List Entry) (n : ℕ) → frame_slot_in p es n ≡ None →
    frame_sector p generation es n ≡ home_place p n
block_home p generation es n is = ap (λ (o : Option ℕ). sector_or o (slot_sector p generation) (home_place p n)) is

pub block_slot : (p : Plan) (generation : ℕ) (es : List Entry) (n : ℕ) {s : ℕ} → frame_slot_in p es n ≡ Some s →
    frame_sector p generation es n ≡ slot_sector p generation s
block_slot p generation es n is = ap (λ (o : Option ℕ). sector_or o (slot_sector p generation) (home_place p n)) is

beside_same : (p : Plan) (es : List Entry) (n m : ℕ) → home_place p n ≡ home_place p m → slot_beside p es n ≡ slot_beside p es m
beside_same p [] n m same = refl
beside_same p (e ∷ es) n m same =
    ap (λ (h : ℕ). if home_place p e.object == h then Some e.slot else slot_beside p es n) same
    ∙ ap (λ (o : Option ℕ). if home_place p e.object == home_place p m then Some e.slot else o) (beside_same p es n m same)

-- in a version with seals, objects that share a home are read from one block
pub one_sector : (p : Plan) (generation : ℕ) (es : List Entry) (n m : ℕ) → (row p.version).sealed ≡ true →
    home_place p n ≡ home_place p m → frame_sector p generation es n ≡ frame_sector p generation es m
one_sector p generation es n m sealed same =
    ap (λ (o : Option ℕ). sector_or o (slot_sector p generation) (home_place p n))
    (sealed_frame_slot p es n sealed ∙ beside_same p es n m same ∙ sym (sealed_frame_slot p es m sealed))
    ∙ ap (λ (h : ℕ). sector_or (frame_slot_in p es m) (slot_sector p generation) h) same

-- so this block contains the frames of all of them
pub block_gathered : (image : Image) (p : Plan) (generation : ℕ) (es : List Entry) (number : ℕ) (block : List ℕ) → IsPlan p →
    IsObject p.geometry number → (row p.version).sealed ≡ true → block_in image p generation es number ≡ block →
    IsGathered image p generation es number block
block_gathered image p generation es number block fits is sealed there n is_n same =
    let long : place_length p number ≡ place_length p n = sym (one_length p n number fits is_n is same) in
    ap (shape_bytes (shape_of p n))
    (sym there ∙ ap (sectors_from image (frame_sector p generation es number)) long
    ∙ ap (λ (k : ℕ). sectors_from image k (place_length p n)) (one_sector p generation es number n sealed (sym same)))

-- a block lies on the device
pub block_within : {p : Plan} (generation : ℕ) {es : List Entry} (n : ℕ) → IsPlan p → IsDirectory p.geometry es → n < count_of p →
    frame_sector p generation es n + place_length p n ≤ p.total
block_within {p} generation {es} n fits is lt = by (frame_slot_in p es n) refl where
  by : (o : Option ℕ) → frame_slot_in p es n ≡ o → frame_sector p generation es n + place_length p n ≤ p.total
  by None home = rw (block_home p generation es n home) ((places_within p n fits lt).1)
  by (Some s) slot =
      let inside = place_inside p generation n (frame_slot_fits p n is slot) in
      let within = halves_within p generation fits in
      rw (block_slot p generation es n slot) (omega (arith, inside.ends, within.1))
