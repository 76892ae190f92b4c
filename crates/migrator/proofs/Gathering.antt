-- The saved frames of all objects that share a home are gathered in one block.
use Rattle.migrator.proofs.Names.{nat_tests, ℕ, Option, Result, List, sym, ap, arith, OnOk, Image, Disk, Entry, Shape, home_place, place_length, shape_of}
use Rattle.migrator.proofs.Names.{frame_in, bytes_at, sector_or, shaped_at, slot_sector, shape_bytes, Plan, ReadsOnly, WritesAt, EndsInZeros, HoldsHome}
use Rattle.migrator.proofs.Names.{on_ok_weaker, zeros, IsGathered, IsCopied, Touches, zero, suc, refl, inl, inr, length, take, drop, subst, drop-drop, drop_all}
use Rattle.migrator.proofs.Names.{shape_end, sectors_from, AreBeside, IsObject, IsFirstOf, HaveHome, blanked, drop_at, take-append-le, between_is, Ok, Err}
use Rattle.migrator.proofs.Names.{Some, None, frame_slot_in, IsPlan, IsDirectory, count_of, row, true, false, places_within, frame_sector, block_in, IfSome}
use Rattle.std.proofs.Common.{◌≡◌, ◌+◌, ◌-◌, ◌*◌, ◌<◌, ◌≤◌, ◌++◌, ◌∙◌}
use Rattle.device.specs.Disk.{IsWhole}
use Rattle.migrator.proofs.Blocks.{block_within, same_each}
use Rattle.migrator.proofs.PlacesApart.{frame_slot_fits}

-- the frame read from a slot, or from home without one
pub one_copied : {T E : Type 0} (result : Result T E) (old new : Image) (p : Plan) (generation : ℕ) (slot : Option ℕ) (n : ℕ) {at : ℕ}
    {s : Shape} (block : List ℕ) → s ≡ shape_of p n → new ≡ old → at ≡ sector_or slot (slot_sector p generation) (home_place p n)
    → OnOk result (shape_bytes s block ≡ shaped_at new at s) → OnOk result (shape_bytes (shape_of p n) block
    ≡ bytes_at old (sector_or slot (slot_sector p generation) (home_place p n)) p n)
one_copied {T} {E} result old new p generation slot n {at} {s} block shape seen place copied =
    on_ok_weaker result
    (λ is. ap (λ (t : Shape). shape_bytes t block) (sym shape) ∙ is ∙ ap (shaped_at new at) shape
    ∙ ap (λ (i : Image). shaped_at i at (shape_of p n)) seen ∙ ap (λ (k : ℕ). shaped_at old k (shape_of p n)) place) copied

-- the slot with an object's frame is one of the log's
pub frame_slot_low : (p : Plan) {es : List Entry} (n : ℕ) → IsDirectory p.geometry es →
    IfSome (frame_slot_in p es n) (λ s. s < p.geometry.log)
frame_slot_low p {es} n is = by (frame_slot_in p es n) refl where
  by : (o : Option ℕ) → frame_slot_in p es n ≡ o → IfSome o (λ s. s < p.geometry.log)
  by None none = tt
  by (Some s) slot = frame_slot_fits p n is slot

-- ---- a write after reads

pub home_touched : {old mid new : Disk} {p q : Plan} (n : ℕ) → q ≡ p → ReadsOnly old mid →
    WritesAt (home_place q n) (place_length q n) mid new → Touches (home_place p n) (place_length p n) old new
home_touched {old} {mid} {new} {p} {q} n same reads writes = grind (arith, nat_tests)

-- if the gathered block is written home, the home contains the saved frames
pub gathered_copied : {T E : Type 0} (result : Result T E) (old new : Image) (p : Plan) (generation : ℕ) (es : List Entry) (n : ℕ)
    (block : List ℕ) → IsGathered old p generation es n block → OnOk result (HoldsHome p n block new) →
    OnOk result ((row p.version).sealed ≡ true → (i : ℕ) → i < place_length p n →
    new (home_place p n + i) ≡ old (frame_sector p generation es n + i)) → OnOk result (IsCopied old new p generation es n)
gathered_copied {T} {E} (Ok x) old new p generation es n block are held same =
    record { frames = λ m is_m home. held m is_m home ∙ are m is_m home; block = same }
gathered_copied {T} {E} (Err e) old new p generation es n block are held same = tt

-- a block that was read is the one that an object is read from
pub block_read : {T E : Type 0} (result : Result T E) (old new : Image) (p : Plan) (generation : ℕ) (es : List Entry) (n : ℕ)
    (block : List ℕ) {at sectors : ℕ} → new ≡ old → at ≡ frame_sector p generation es n → sectors ≡ place_length p n →
    OnOk result (sectors_from new at sectors ≡ block) → OnOk result (block_in old p generation es n ≡ block)
block_read result old new p generation es n block {at} {sectors} seen place size read =
    on_ok_weaker result
    (λ is. ap (λ (i : Image). sectors_from i (frame_sector p generation es n) (place_length p n)) (sym seen)
    ∙ ap (λ (k : ℕ). sectors_from new k (place_length p n)) (sym place) ∙ ap (sectors_from new at) (sym size) ∙ is) read

-- if a block that was read is written home, the home has the same sectors
pub block_copied : {T E : Type 0} (result : Result T E) (old new : Disk) (p : Plan) (generation : ℕ) (es : List Entry) (n : ℕ)
    (block : List ℕ) → IsPlan p → IsDirectory p.geometry es → n < count_of p → p.total ≤ old.sectors → new.sectors ≡ old.sectors →
    IsWhole old.sectors old.seen → IsWhole new.sectors new.seen →
    ((row p.version).sealed ≡ true → block_in old.seen p generation es n ≡ block) →
    OnOk result (sectors_from new.seen (home_place p n) (place_length p n) ≡ block) →
    OnOk result ((row p.version).sealed ≡ true → (i : ℕ) → i < place_length p n →
    new.seen (home_place p n + i) ≡ old.seen (frame_sector p generation es n + i))
block_copied result old new p generation es n block fits is lt inside size whole_old whole_new read written =
    let home = (places_within p n fits lt).1 in
    let there = block_within generation n fits is lt in
    on_ok_weaker result
    (λ bytes sealed. same_each old.seen new.seen (home_place p n) (frame_sector p generation es n) (place_length p n)
    (λ i low. whole_new.size (home_place p n + i) (omega (arith, low, home, inside, size)))
    (λ i low. whole_old.size (frame_sector p generation es n + i) (omega (arith, low, there, inside)))
    (bytes ∙ sym (read sealed))) written

-- if a block that ends in zeros is written, its sectors end in zeros
pub zeros_there : {T E : Type 0} (result : Result T E) (p : Plan) (n : ℕ) (there block : List ℕ) → OnOk result (there ≡ block) →
    ((row p.version).sealed ≡ false → EndsInZeros p n block) → OnOk result ((row p.version).sealed ≡ false → EndsInZeros p n there)
zeros_there result p n there block written zeros =
    on_ok_weaker result (λ same plain. subst (EndsInZeros p n) (sym same) (zeros plain)) written

-- ---- a frame that fills its block

none_taken : (m : ℕ) (xs ys : List ℕ) → m ≡ 0 → take m xs ≡ take m ys
none_taken zero xs ys none = refl
none_taken (suc m) xs ys none = absurd (omega (arith, none))

-- facts about a block into whose front `run` was read
module _ (s : Shape) (run block : List ℕ) (n : ℕ) (long : length run ≡ n) (le : shape_end s ≤ n) where
  pub place_read : shape_bytes s (run ++ drop n block) ≡ shape_bytes s run
  place_read = ap (λ (b : List ℕ). blanked s.has_sums b ++ zeros (1024 - s.bytes)) (between_is (run ++ drop n block) s.offset (shape_end s)
      ∙ ap (drop s.offset) (take-append-le (shape_end s) run (drop n block) (omega (arith, le, long)))
      ∙ sym (between_is run s.offset (shape_end s)))

  behind_read : (at : ℕ) → n ≤ at → drop at (run ++ drop n block) ≡ drop at block
  behind_read at far =
      let sum : n + (at - n) ≡ at = omega (arith, far) in
      ap (λ (k : ℕ). drop k (run ++ drop n block)) (sym sum) ∙ sym (drop-drop (at - n) n (run ++ drop n block))
      ∙ ap (drop (at - n)) (drop_at run (drop n block) n long) ∙ drop-drop (at - n) n block ∙ ap (λ (k : ℕ). drop k block) sum

  pub place_behind : s.bytes ≡ n → drop (shape_end s) (run ++ drop n block) ≡ drop (shape_end s) block
  place_behind whole = behind_read (shape_end s) (omega (arith, whole))

  pub places_beside : s.bytes ≡ n → (t : Shape) → AreBeside s t → shape_bytes t (run ++ drop n block) ≡ shape_bytes t block
  places_beside whole t (inl behind) =
      ap (λ (b : List ℕ). blanked t.has_sums (take (shape_end t - t.offset) b) ++ zeros (1024 - t.bytes))
      (behind_read t.offset (omega (arith, behind, whole)))
  places_beside whole t (inr before) =
      ap (λ (b : List ℕ). blanked t.has_sums b ++ zeros (1024 - t.bytes)) (none_taken (shape_end t - t.offset)
      (drop t.offset (run ++ drop n block)) (drop t.offset block) (omega (arith, before, whole, le)))

-- a frame in the sectors that were read is the frame in the block
pub place_there : {T E : Type 0} (result : Result T E) (s : Shape) (image : Image) (at : ℕ) (run block : List ℕ) (n : ℕ) →
    length run ≡ n → shape_end s ≤ n → OnOk result (sectors_from image at s.sectors ≡ run) →
    OnOk result (shape_bytes s (run ++ drop n block) ≡ shaped_at image at s)
place_there {T} {E} result s image at run block n long le read =
    on_ok_weaker result (λ is. place_read s run block n long le ∙ ap (shape_bytes s) (sym is)) read

-- ---- an object that shares its home with no other

pub only_one : {p : Plan} {number first m : ℕ} → IsFirstOf p number first → first ≡ number → HaveHome p number m → m ≡ 1 →
    (n : ℕ) → IsObject p.geometry n → home_place p n ≡ home_place p number → n ≡ number
only_one {p} {number} {first} {m} start is have one n is_n same =
    let low = start.least n is_n same in
    let high = have.all n is_n (omega (arith, low, is)) same in
    omega (arith, low, high, is, one)

-- if no other object shares the home, its frame is all that is to gather
pub alone_gathered : {T E : Type 0} (result : Result T E) (image : Image) (p : Plan) (generation : ℕ) (es : List Entry) (number : ℕ)
    (block : List ℕ) → ((n : ℕ) → IsObject p.geometry n → home_place p n ≡ home_place p number → n ≡ number) →
    OnOk result (shape_bytes (shape_of p number) block ≡ frame_in image p generation es number) →
    OnOk result (IsGathered image p generation es number block)
alone_gathered {T} {E} result image p generation es number block alone here =
    on_ok_weaker result (λ is n is_n same. subst (λ (k : ℕ). shape_bytes (shape_of p k) block ≡ frame_in image p generation es k)
    (sym (alone n is_n same)) is) here

-- a block that its frame fills has no other bytes
pub alone_ended : (p : Plan) (number : ℕ) (block : List ℕ) → IsObject p.geometry number → length block ≡ 512 * place_length p number →
    (shape_of p number).bytes ≡ 512 * (shape_of p number).sectors → EndsInZeros p number block
unfolding zeros
alone_ended p number block is_object size whole at behind =
    let end = behind number is_object refl in
    let past : length block ≤ at = omega (arith, end, size, whole) in
    let none : 0 ≡ length block - at = omega (arith, past) in
    drop_all at block past ∙ ap zeros none
