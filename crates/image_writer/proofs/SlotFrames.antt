-- Log slots are written one after another, after the homes.
use Rattle.image_writer.proofs.Names.{nat_tests, ℕ, Option, Some, None, List, length, ⊎_elim, inl, inr, refl, sym, subst, ap, arith, cases_lt, take, true}
use Rattle.image_writer.proofs.Names.{Frame, frame_at, object_count, Image, Elsewhere, Entry, IsDirectory, entry_at, frame_bytes, home_place, place_length}
use Rattle.image_writer.proofs.Names.{shape_of, bytes_at, directory_sector, frame_in, half_sector, frame_slot_in, sectors_from, slot_sector, shape_bytes}
use Rattle.image_writer.proofs.Names.{shape_end, front_shape, Plan, IsPlan, half_extent, half_within, few_sectors, IsObject, one_length, places_spare_log, row}
use Rattle.image_writer.proofs.Names.{frame_slot_entry, AreFramesOf, AreHomes, AreInSlots, Ends, EndInZeros, LieAt, same_sectors, directory_length}
use Rattle.image_writer.proofs.Names.{fewer_entries, half_has, half_behind, length-take-le, seal_in, Sums, unit_of}
use Rattle.std.proofs.Common.{◌≡◌, ◌+◌, ◌-◌, ◌*◌, ◌<◌, ◌≤◌, ◌∙◌}
use Rattle.image_writer.proofs.HomeFrames.{home_lies, lie_same}

-- ---- the block of one home

shape_inside : (p : Plan) (n : ℕ) → shape_end (shape_of p n) ≤ 512 * place_length p n
shape_inside p n = grind (arith, nat_tests)

-- sectors that contain a block
written_at : (p : Plan) (n at k : ℕ) (block : List ℕ) (image : Image) → k ≡ place_length p n →
    sectors_from image at k ≡ take (512 * k) block → sectors_from image at (place_length p n) ≡ take (512 * place_length p n) block
written_at p n at k block image size held = subst (λ (j : ℕ). sectors_from image at j ≡ take (512 * j) block) size held

-- sectors that contain a filled block contain the frames of all objects that share the home
pub block_at : (p : Plan) (frames : List Frame) (n at k : ℕ) (block : List ℕ) (image : Image) → IsPlan p → IsObject p.geometry n →
    k ≡ place_length p n → 512 * k ≤ length block → sectors_from image at k ≡ take (512 * k) block → AreFramesOf p frames n block →
    Ends p n (take (512 * place_length p n) block) → LieAt p frames n at image
block_at p frames n at k block image fits is size le held filled ends =
    let here = written_at p n at k block image size held in
    record {
      size = ap length here ∙ length-take-le (512 * place_length p n) block (omega (arith, size, le));
      frame = λ a is_a same.
          let long : k ≡ place_length p a = size ∙ sym (one_length p a n fits is_a is same) in
          let inside = shape_inside p a in
          ap (λ (j : ℕ). shape_bytes (shape_of p a) (sectors_from image at j)) (sym long) ∙ ap (shape_bytes (shape_of p a)) held
          ∙ front_shape (shape_of p a) (512 * k) block (omega (arith, inside, long)) ∙ filled a is_a same;
      zeros = subst (Ends p n) (sym here) ends;
    }

-- the seal of a block is that of the sectors which it was written to
pub seal_written : (p : Plan) (n at k : ℕ) (block : List ℕ) (image : Image) {seal : Sums} → k ≡ place_length p n →
    sectors_from image at k ≡ take (512 * k) block →
    ((row p.version).sealed ≡ true → seal ≡ seal_in (unit_of p n (take (512 * place_length p n) block))) →
    (row p.version).sealed ≡ true → seal ≡ seal_in (unit_of p n (sectors_from image at (place_length p n)))
seal_written p n at k block image {seal} size held is sealed =
    is sealed ∙ ap (λ (b : List ℕ). seal_in (unit_of p n b)) (sym (written_at p n at k block image size held))

less_by : (a b : ℕ) → a ≤ b → (b ≡ a → ⊥) → a < b
less_by a b most differ = search arith

-- ---- one slot after another

-- no frame's block takes more than the 9 sectors of a slot
slot_length : (p : Plan) (n : ℕ) → place_length p n ≤ 9
slot_length p n = few_sectors p n

module _ (p : Plan) (generation : ℕ) (es : List Entry) (i : ℕ) (mid new : Image) (is : IsDirectory p.geometry es) (lt : i < length es)
    (change : Elsewhere (slot_sector p generation (entry_at es i).slot) (place_length p (entry_at es i).object) mid new) where
  fits : (j : ℕ) → j < length es → (entry_at es j).slot < p.geometry.log
  fits j within = (is.each j (record { object = 0; slot = 0 }) within).slot

  -- writing a slot changes no earlier one
  other_sectors : (j n : ℕ) → n ≤ 9 → j < i → sectors_from new (slot_sector p generation (entry_at es j).slot) n ≡ sectors_from mid
      (slot_sector p generation (entry_at es j).slot) n
  other_sectors j n short before =
      let at_slot = slot_sector p generation (entry_at es j).slot in
      let few : place_length p (entry_at es i).object ≤ 9 = slot_length p (entry_at es i).object in
      same_sectors at_slot n mid new
      (λ k inside. ⊎_elim (λ less. change.before (at_slot + k) (omega (arith, less, inside, short)))
      (λ more. change.after (at_slot + k) (omega (
        arith,
        less_by (entry_at es i).slot (entry_at es j).slot more (is.apart j i before lt),
        few,
      )))
      (cases_lt (entry_at es j).slot (entry_at es i).slot))

  pub one_more_slot : (frames : List Frame) → IsPlan p → AreInSlots p generation es frames i mid →
      LieAt p frames (entry_at es i).object (slot_sector p generation (entry_at es i).slot) new →
      AreInSlots p generation es frames (i + 1) new
  one_more_slot frames plan so_far here j below = elim (cases_lt j i) [
    | inl before ↦
        let n : ℕ = (entry_at es j).object in
        lie_same p frames n (slot_sector p generation (entry_at es j).slot) mid new plan
        (is.each j (record { object = 0; slot = 0 }) (omega (arith, before, lt))).object
        (other_sectors j (place_length p n) (slot_length p n) before) (so_far j before)
    | inr not_before ↦
        let same : i ≡ j = omega (arith, below, not_before) in
        subst (λ (k : ℕ). LieAt p frames (entry_at es k).object (slot_sector p generation (entry_at es k).slot) new) same here
  ]

  -- writing a slot changes only sectors of the half's slots
  pub stays_in_half : (old : Image) → Elsewhere (half_sector p generation) (9 * p.geometry.log) old mid →
      Elsewhere (half_sector p generation) (9 * p.geometry.log) old new
  stays_in_half old so_far = search (arith, fits, slot_length)

-- each slot lies behind the header slots
pub slot_behind : (p : Plan) (generation slot : ℕ) → IsPlan p → (row p.version).first_home ≤ slot_sector p generation slot
slot_behind p generation slot fits = let within = half_behind p generation fits in omega (arith, within)

-- ---- the directory

pub directory_behind : (p : Plan) (generation : ℕ) → IsPlan p → (row p.version).first_home ≤ directory_sector p generation
directory_behind p generation fits = let within = half_behind p generation fits in omega (arith, within)

slot_stays : (p : Plan) (generation at long : ℕ) (es : List Entry) (mid new : Image) → IsDirectory p.geometry es →
    at ≡ directory_sector p generation → Elsewhere at long mid new → (j n : ℕ) → n ≤ 9 → j < length es →
    sectors_from new (slot_sector p generation (entry_at es j).slot) n ≡ sectors_from mid (slot_sector p generation (entry_at es j).slot) n
slot_stays p generation at long es mid new is place change j n short lt =
    let at_slot = slot_sector p generation (entry_at es j).slot in
    let few : (entry_at es j).slot < p.geometry.log = (is.each j (record { object = 0; slot = 0 }) lt).slot in
    same_sectors at_slot n mid new (λ k inside. change.before (at_slot + k) (omega (arith, place, few, inside, short)))

pub slots_stay : (p : Plan) (generation at long : ℕ) (es : List Entry) (frames : List Frame) (mid new : Image) → IsPlan p →
    IsDirectory p.geometry es →
    at ≡ directory_sector p generation → Elsewhere at long mid new
    → AreInSlots p generation es frames (length es) mid → AreInSlots p generation es frames (length es) new
slots_stay p generation at long es frames mid new plan is place change so_far j lt =
    let n : ℕ = (entry_at es j).object in
    lie_same p frames n (slot_sector p generation (entry_at es j).slot) mid new plan
    (is.each j (record { object = 0; slot = 0 }) lt).object
    (slot_stays p generation at long es mid new is place change j (place_length p n) (slot_length p n) lt) (so_far j lt)

-- ---- where each frame is

-- a change of a log half keeps all homes
pub home_stays : (p : Plan) (generation : ℕ) (homes new : Image) → IsPlan p →
    Elsewhere (half_sector p generation) (half_extent p.version p.geometry 0).length homes new → (a : ℕ) → a < object_count p.geometry →
    sectors_from new (home_place p a) (place_length p a) ≡ sectors_from homes (home_place p a) (place_length p a)
home_stays p generation homes new plan change a lt =
    same_sectors (home_place p a) (place_length p a) homes new
    (λ k inside. ⊎_elim (λ before. change.before (home_place p a + k) (omega (arith, before, inside)))
    (λ after. change.after (home_place p a + k) (omega (arith, after)))
    (places_spare_log p a generation plan lt))

module _ (p : Plan) (generation : ℕ) (es : List Entry) (frames : List Frame) (homes new : Image) (plan : IsPlan p)
    (change : Elsewhere (half_sector p generation) (half_extent p.version p.geometry 0).length homes new)
    (home : AreHomes p frames (object_count p.geometry) homes) (slots : AreInSlots p generation es frames (length es) new) where
  -- the home of each object is still there
  pub at_home : (a : ℕ) → a < object_count p.geometry → LieAt p frames a (home_place p a) new
  at_home a lt =
      lie_same p frames a (home_place p a) homes new plan lt (home_stays p generation homes new plan change a lt)
      (home_lies p frames homes plan home a lt)

  -- each frame is in the slot of its own or its cluster's first entry, or at home
  pub all_slotted : (a : ℕ) → a < object_count p.geometry → frame_in new p generation es a ≡ frame_bytes p.geometry a (frame_at frames a)
  all_slotted a lt = by (frame_slot_in p es a) refl where
    by : (o : Option ℕ) → frame_slot_in p es a ≡ o → frame_in new p generation es a ≡ frame_bytes p.geometry a (frame_at frames a)
    by None none = rw none ((at_home a lt).frame a lt refl)
    by (Some slot) some = rw some (
        let entry = frame_slot_entry p es a slot some in
        subst (λ (s : ℕ). bytes_at new (slot_sector p generation s) p a ≡ frame_bytes p.geometry a (frame_at frames a)) entry.slot_is
        ((slots entry.index entry.within).frame a lt (sym entry.home_is)))

  -- each block has zeros after its frames
  pub all_end : EndInZeros p generation es new
  all_end = record { home = λ a lt. (at_home a lt).zeros; slots = λ j lt. (slots j lt).zeros }

-- a change of the slots is a change within the half
pub slots_in_half : (p : Plan) (generation : ℕ) {old new : Image} → Elsewhere (half_sector p generation) (9 * p.geometry.log) old new →
    Elsewhere (half_sector p generation) (half_extent p.version p.geometry 0).length old new
slots_in_half p generation change =
    let has = half_has p.version p.geometry in
    record { before = λ i lt. change.before i lt; after = λ i le. change.after i (omega (arith, le, has)) }

-- a change of the slots and then of the directory is a change within the half
pub log_in_half : (p : Plan) (generation n : ℕ) {old mid new : Image} → n ≤ p.geometry.log →
    Elsewhere (half_sector p generation) (9 * p.geometry.log) old mid →
    Elsewhere (half_sector p generation + 9 * p.geometry.log) (directory_length p.version n) mid new →
    Elsewhere (half_sector p generation) (half_extent p.version p.geometry 0).length old new
log_in_half p generation n few first second =
    let has = half_has p.version p.geometry in
    let fewer = fewer_entries p.version n p.geometry.log few in
    record {
      before = λ i lt. second.before i (omega (arith, lt)) ∙ first.before i lt;
      after = λ i le. second.after i (omega (arith, le, has, fewer)) ∙ first.after i (omega (arith, le, has));
    }

-- a change of the half is a change between the headers and the end
pub log_between : (p : Plan) (generation : ℕ) (old mid new : Image) → IsPlan p →
    Elsewhere (row p.version).first_home (p.total - (row p.version).first_home) old mid →
    Elsewhere (half_sector p generation) (half_extent p.version p.geometry 0).length mid new →
    Elsewhere (row p.version).first_home (p.total - (row p.version).first_home) old new
log_between p generation old mid new fits first second =
    let within = half_within p generation fits in
    let behind = half_behind p generation fits in
    let inside : half_sector p generation + (half_extent p.version p.geometry 0).length ≤ p.total = within.1 in
    record {
      before = λ i lt. second.before i (omega (arith, lt, behind)) ∙ first.before i lt;
      after = λ i le. second.after i (omega (arith, le, behind, inside)) ∙ first.after i le;
    }
