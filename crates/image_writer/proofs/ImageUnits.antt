-- The units of a new image are where its directory says, with the seals of those at home.
use Rattle.image_writer.proofs.Names.{ℕ, Bool, Option, Some, None, List, length, take, true, false, refl, ap, sym, subst, arith, Image, Elsewhere, Frame, Entry}
use Rattle.image_writer.proofs.Names.{object_count, entry_at, half_sector, half_extent, slot_sector, frame_slot_in, frame_slot_entry, sectors_from, home_place}
use Rattle.image_writer.proofs.Names.{place_length, shape_of, shape_bytes, one_length, Plan, IsPlan, IsObject, IsFirstOf, row, AreFramesOf, AreHomes}
use Rattle.image_writer.proofs.Names.{AreInSlots, EndsBy, IsUnitBy, LieAt, Sums, begins_unit, home_unit, home_units, root_of, seal_in, unit_part, nat_lt}
use Rattle.image_writer.proofs.Names.{le-ltb, lt-ltb, take_at, range_with, rank_in, frame_sector, HasUnits, block_in, unit_in}
use Rattle.std.proofs.Common.{◌≡◌, ◌+◌, ◌*◌, ◌<◌, ◌∙◌}
use Rattle.std.specs.Prelude.{◌==◌, if◌then◌else◌}
use Rattle.image_writer.proofs.Firsts.{begins_first}
use Rattle.image_writer.proofs.HomeFrames.{home_lies}
use Rattle.image_writer.proofs.HomeUnits.{same_list}
use Rattle.image_writer.proofs.OneBlocks.{block_size, one_block}
use Rattle.image_writer.proofs.SlotFrames.{home_stays}

-- ---- a block that was written for one of the objects in it

module _ (p : Plan) (frames : List Frame) (e n at : ℕ) (image : Image) (fits : IsPlan p) (is_e : IsObject p.geometry e)
    (is : IsObject p.geometry n) (same : home_place p e ≡ home_place p n) (lies : LieAt p frames e at image) where
  long : place_length p e ≡ place_length p n
  long = one_length p e n fits is_e is same

  block_long : length (sectors_from image at (place_length p n)) ≡ 512 * place_length p n
  block_long = subst (λ (k : ℕ). length (sectors_from image at k) ≡ 512 * k) long lies.size

  block_frames : AreFramesOf p frames n (sectors_from image at (place_length p n))
  block_frames a is_a home =
      let here : place_length p a ≡ place_length p n = one_length p a n fits is_a is home in
      ap (λ (k : ℕ). shape_bytes (shape_of p a) (sectors_from image at k)) (sym here) ∙ lies.frame a is_a (home ∙ sym same)

  block_unit : (row p.version).sealed ≡ true → IsFirstOf p n n →
      IsUnitBy (nat_lt n p.geometry.nodes) p n (sectors_from image at (place_length p n))
  block_unit sealed start =
      let ends : EndsBy true p e (sectors_from image at (place_length p e)) =
      subst (λ (b : Bool). EndsBy b p e (sectors_from image at (place_length p e))) sealed lies.zeros in
      subst (λ (k : ℕ). IsUnitBy (nat_lt n p.geometry.nodes) p n (sectors_from image at k)) long
      (ends n (record { below = start.least e is_e same; home = sym same; least = λ a is_a home. start.least a is_a (home ∙ same) }))

-- ---- the block of each unit

nine_first : (image : Image) (at : ℕ) → length (image at) ≡ 512 → take 512 (sectors_from image at 9) ≡ image at
unfolding sectors_from
nine_first image at size = take_at (image at) (sectors_from image (at + 1) 8) 512 size

module _ (p : Plan) (generation : ℕ) (es : List Entry) (frames : List Frame) (homes new : Image) (fits : IsPlan p)
    (sealed : (row p.version).sealed ≡ true)
    (each : (j : ℕ) → j < length es → IsObject p.geometry (entry_at es j).object)
    (change : Elsewhere (half_sector p generation) (half_extent p.version p.geometry 0).length homes new)
    (home : AreHomes p frames (object_count p.geometry) homes) (slots : AreInSlots p generation es frames (length es) new) where
  abbrev at_home : ℕ → List ℕ
  at_home n = sectors_from homes (home_place p n) (place_length p n)

  -- it is the one at home, also in a slot
  same_block : (n : ℕ) → IsObject p.geometry n → IsFirstOf p n n → block_in new p generation es n ≡ at_home n
  same_block n is start = by (frame_slot_in p es n) refl where
    by : (o : Option ℕ) → frame_slot_in p es n ≡ o → block_in new p generation es n ≡ at_home n
    by None none = rw none (home_stays p generation homes new fits change n is)
    by (Some slot) some = rw some (
        let entry = frame_slot_entry p es n slot some in
        let e : ℕ = (entry_at es entry.index).object in
        let at : ℕ = slot_sector p generation (entry_at es entry.index).slot in
        let is_e = each entry.index entry.within in
        let there = slots entry.index entry.within in
        let here = home_lies p frames homes fits home n is in
        let same : sectors_from new at (place_length p n) ≡ at_home n =
        one_block p n frames (sectors_from new at (place_length p n)) (at_home n) fits is sealed start
        (block_long p frames e n at new fits is_e is entry.home_is there)
        (block_long p frames n n (home_place p n) homes fits is is refl here)
        (block_frames p frames e n at new fits is_e is entry.home_is there)
        (block_frames p frames n n (home_place p n) homes fits is is refl here)
        (block_unit p frames e n at new fits is_e is entry.home_is there sealed start)
        (block_unit p frames n n (home_place p n) homes fits is is refl here sealed start) in
        subst (λ (s : ℕ). sectors_from new (slot_sector p generation s) (place_length p n) ≡ at_home n) entry.slot_is same)

  unit_there : (n : ℕ) → IsObject p.geometry n → begins_unit p n ≡ true →
      IsUnitBy (nat_lt n p.geometry.nodes) p n (block_in new p generation es n)
  unit_there n is begins =
      let start = begins_first p n fits is begins in
      subst (IsUnitBy (nat_lt n p.geometry.nodes) p n) (sym (same_block n is start))
      (block_unit p frames n n (home_place p n) homes fits is is refl (home_lies p frames homes fits home n is) sealed start)

  -- the first of the nine sectors of a page's block
  first_sector : (n : ℕ) → length (new (frame_sector p generation es n)) ≡ 512 → nat_lt n p.geometry.nodes ≡ false →
      new (frame_sector p generation es n) ≡ take 512 (block_in new p generation es n)
  first_sector n size page =
      let nine : place_length p n ≡ 9 = block_size p n false sealed page in
      sym (ap (λ (k : ℕ). take 512 (sectors_from new (frame_sector p generation es n) k)) nine
      ∙ nine_first new (frame_sector p generation es n) size)

  unit_same : ((n : ℕ) → IsObject p.geometry n → length (new (frame_sector p generation es n)) ≡ 512) → (n : ℕ) → IsObject p.geometry n →
      begins_unit p n ≡ true → (node : Bool) → nat_lt n p.geometry.nodes ≡ node → unit_in new p generation es n ≡ home_unit homes p n
  unit_same whole n is begins true node =
      let start = begins_first p n fits is begins in
      ap (λ (b : Bool). record {
        number = n;
        seal = seal_in (if b then block_in new p generation es n else new (frame_sector p generation es n));
      }) node
      ∙ ap (λ (block : List ℕ). record { number = n; seal = seal_in block }) (same_block n is start)
      ∙ ap (λ (b : Bool). record { number = n; seal = seal_in (unit_part b (at_home n)) }) (sym node)
  unit_same whole n is begins false node =
      let start = begins_first p n fits is begins in
      ap (λ (b : Bool). record {
        number = n;
        seal = seal_in (if b then block_in new p generation es n else new (frame_sector p generation es n));
      }) node
      ∙ ap (λ (first : List ℕ). record { number = n; seal = seal_in first }) (first_sector n (whole n is) node)
      ∙ ap (λ (block : List ℕ). record { number = n; seal = seal_in (take 512 block) }) (same_block n is start)
      ∙ ap (λ (b : Bool). record { number = n; seal = seal_in (unit_part b (at_home n)) }) (sym node)

  -- the units add up to the root of those at home
  pub units_there : {root : Sums} → ((n : ℕ) → IsObject p.geometry n → length (new (frame_sector p generation es n)) ≡ 512) →
      root ≡ root_of (home_units homes p (object_count p.geometry)) → HasUnits new p root generation es
  units_there {root} whole is = record {
    clusters = λ n less begins.
        let object : IsObject p.geometry n = omega (arith, less) in
        subst (λ (b : Bool). IsUnitBy b p n (block_in new p generation es n)) (lt-ltb n p.geometry.nodes less)
        (unit_there n object begins);
    pages = λ n le object.
        let begins : begins_unit p n ≡ true =
        ap (λ (b : Bool). if b then rank_in p.version (range_with p.ranges n) n == 0 else true) (le-ltb n p.geometry.nodes le) in
        subst (λ (b : Bool). IsUnitBy b p n (block_in new p generation es n)) (le-ltb n p.geometry.nodes le) (unit_there n object begins);
    root_is =
        ap root_of (same_list p (unit_in new p generation es) (home_unit homes p) (object_count p.geometry)
        (λ n lt begins. unit_same whole n lt begins (nat_lt n p.geometry.nodes) refl)) ∙ sym is;
  }
