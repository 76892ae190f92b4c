-- The frames of a new image, its directory, and their sums.
use Rattle.image_writer.proofs.Names.{nat_tests, ℕ, Bool, Option, Some, None, List, length, true, false, refl, ap, sym, subst, arith, Image, Elsewhere, Frame}
use Rattle.image_writer.proofs.Names.{Entry, object_count, entry_at, IsDirectory, half_sector, half_extent, half_within, half_has, frame_slot_in}
use Rattle.image_writer.proofs.Names.{frame_slot_entry, frame_in, place_length, places_within, Plan, IsPlan, IsObject, row, AreHomes, AreInSlots, EndInZeros}
use Rattle.image_writer.proofs.Names.{HasFrames, Sums, home_units, root_of, HasNoSums, AreEntriesOf, sums_if, frame_sector, SealedHeader, HasUnits, Agrees}
use Rattle.image_writer.proofs.Names.{CheckpointHeader, HaveHeaders, IsHeaderOf, IsShut, Version, agrees_is, directory_length, directory_sector, same_sectors}
use Rattle.image_writer.proofs.Names.{take, AreEntriesIf, first_home_inside, first_some, same_frames, same_units}
use Rattle.std.proofs.Common.{◌≡◌, ◌+◌, ◌-◌, ◌*◌, ◌<◌, ◌≤◌, ◌∙◌}
use Rattle.image_writer.proofs.FreshImages.{IsWrittenFor, still_zeros}
use Rattle.image_writer.proofs.ImageUnits.{units_there}
use Rattle.image_writer.proofs.OldImages.{KeptBehind, kept_blocks}
use Rattle.image_writer.proofs.SlotFrames.{all_end, all_slotted, directory_behind}

some_length : (p : Plan) (n : ℕ) → 0 < place_length p n
some_length p n = grind (arith, nat_tests)

-- the first sector of each frame is one of the image
sector_inside : (p : Plan) (generation : ℕ) (es : List Entry) (n : ℕ) → IsPlan p → IsDirectory p.geometry es → IsObject p.geometry n →
    frame_sector p generation es n < p.total
sector_inside p generation es n fits directory is = by (frame_slot_in p es n) refl where
  by : (o : Option ℕ) → frame_slot_in p es n ≡ o → frame_sector p generation es n < p.total
  by None none = rw none (
      let within = places_within p n fits is in
      let some = some_length p n in
      omega (arith, within.1, some))
  by (Some slot) some = rw some (
      let entry = frame_slot_entry p es n slot some in
      let low : (entry_at es entry.index).slot < p.geometry.log =
      (directory.each entry.index (record { object = 0; slot = 0 }) entry.within).slot in
      let within = half_within p generation fits in
      let has = half_has p.version p.geometry in
      omega (arith, low, entry.slot_is, within.1, has))

sums_are : (b : Bool) (es : List Entry) (h : SealedHeader) {sums : Sums} → sums ≡ sums_if b es → (b ≡ true → h.directory ≡ sums) →
    (b ≡ false → HasNoSums h) → sums_if b es ≡ h.directory
sums_are true es h {sums} is sealed plain = sym (sealed refl ∙ is)
sums_are false es h {sums} is sealed plain = sym (plain refl).directory

pub frames_there : (p : Plan) (h : SealedHeader) (generation : ℕ) (es : List Entry) (frames : List Frame) (homes new : Image)
    (root sums : Sums) → h.header.generation ≡ generation → IsPlan p → IsDirectory p.geometry es
    → Elsewhere (half_sector p generation) (half_extent p.version p.geometry 0).length homes new
    → AreHomes p frames (object_count p.geometry) homes → AreInSlots p generation es frames (length es) new
    → AreEntriesOf new p generation es → sums ≡ sums_if (row p.version).sealed es
    → ((row p.version).sealed ≡ true → root ≡ root_of (home_units homes p (object_count p.geometry)))
    → ((i : ℕ) → i < p.total → length (new i) ≡ 512)
    → ((row p.version).sealed ≡ true → h.root ≡ root) → ((row p.version).sealed ≡ true → h.directory ≡ sums)
    → ((row p.version).sealed ≡ false → HasNoSums h) → HasFrames p h es frames new
frames_there p h generation es frames homes new root sums e fits directory change home slots entries sums_is root_is whole sealed_root
    sealed_sums plain = record {
      directory = subst (λ (k : ℕ). AreEntriesOf new p k es) (sym e) entries;
      sums = sums_are (row p.version).sealed es h sums_is sealed_sums plain;
      placed = λ a lt.
          ap (λ (k : ℕ). frame_in new p k es a) e ∙ all_slotted p generation es frames homes new fits change home slots a lt;
      zeros = subst (λ (k : ℕ). EndInZeros p k es new) (sym e) (all_end p generation es frames homes new fits change home slots);
      units = λ sealed.
          subst (λ (k : ℕ). HasUnits new p h.root k es) (sym e)
          (units_there p generation es frames homes new fits sealed
          (λ j lt. (directory.each j (record { object = 0; slot = 0 }) lt).object) change home slots
          (λ n is. whole (frame_sector p generation es n) (sector_inside p generation es n fits directory is))
          (sealed_root sealed ∙ root_is sealed));
    }

-- ---- headers are written after the frames

entries_kept : (b : Bool) (p : Plan) (generation : ℕ) (es : List Entry) (old new : Image) → (row p.version).sealed ≡ b →
    KeptBehind p.version old new → (row p.version).first_home ≤ directory_sector p generation → AreEntriesIf b old p generation es →
    AreEntriesIf b new p generation es
entries_kept true p generation es old new is kept low are = λ j lt.
    kept.behind (directory_sector p generation + j) (omega (arith, low)) ∙ are j lt
entries_kept false p generation es old new is kept low are =
    ap (take (16 * length es)) (same_sectors (directory_sector p generation) (directory_length p.version (length es)) old new
    (λ i lt. kept.behind (directory_sector p generation + i) (omega (arith, low)))) ∙ are

pub frames_kept : (p : Plan) (h : SealedHeader) (es : List Entry) (frames : List Frame) (old new : Image) → IsPlan p →
    KeptBehind p.version old new → HasFrames p h es frames old → HasFrames p h es frames new
frames_kept p h es frames old new fits kept was =
    let generation : ℕ = h.header.generation in
    let blocks = kept_blocks p generation es old new fits kept in
    record {
      directory = entries_kept (row p.version).sealed p generation es old new refl kept (directory_behind p generation fits) was.directory;
      sums = was.sums;
      placed = λ a lt. same_frames old new p h.header es a (blocks a lt) ∙ was.placed a lt;
      zeros = still_zeros p generation es old new fits kept was.zeros;
      units = λ sealed. same_units old new p h.root generation es blocks (was.units sealed);
    }

pub headers_behind : (v : Version) (old new : Image) → Elsewhere 1 ((row v).first_home - 1) old new → KeptBehind v old new
headers_behind v old new change =
    let some = first_some v in
    record {
      superblock = change.before 0 (omega arith);
      behind = λ i low. change.after i (omega (arith, low, some));
    }

-- all parts are written
pub parts_written : (p : Plan) (header : CheckpointHeader) (h : SealedHeader) (es : List Entry) (frames : List Frame)
    (mid new now : Image) → IsPlan p → IsHeaderOf p header h → HasFrames p h es frames mid →
    Elsewhere 1 ((row p.version).first_home - 1) mid new →
    HaveHeaders (row p.version).sealed h new → IsShut p new → Agrees now new → IsWrittenFor p header es frames now
parts_written p header h es frames mid new now fits of there change headers shut same =
    subst (IsWrittenFor p header es frames) (sym (agrees_is now new same)) (
      h,
      of.same,
      record {
        plan = fits;
        shut = shut;
        headers = headers;
        fits = record { same = refl; words = of.words; plain = of.plain };
        parts = frames_kept p h es frames mid new fits (headers_behind p.version mid new change) there;
      },
    )

-- the frames and then the headers change only sectors between the superblock and the end
pub closed_between : (p : Plan) (old mid new : Image) → IsPlan p →
    Elsewhere (row p.version).first_home (p.total - (row p.version).first_home) old mid →
    Elsewhere 1 ((row p.version).first_home - 1) mid new → Elsewhere 1 (p.total - 1) old new
closed_between p old mid new fits first second =
    let some = first_some p.version in
    let inside = first_home_inside p fits in
    record {
      before = λ i lt. second.before i lt ∙ first.before i (omega (arith, lt, some));
      after = λ i le. second.after i (omega (arith, le, inside, some)) ∙ first.after i (omega (arith, le, inside, some));
    }
