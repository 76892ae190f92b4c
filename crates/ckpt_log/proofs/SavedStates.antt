-- Images that agree in the sectors of a saved state.
use Rattle.std.proofs.Common.{◌≡◌, ◌∙◌, ◌+◌, ◌*◌, ◌%◌, ◌<◌, ◌≤◌, ◌++◌, ◌∷◌}
use Rattle.std.specs.Prelude.{if◌then◌else◌}
use Rattle.ckpt_log.proofs.Names.{nat_tests, ℕ, List, [], Bool, Option, Some, None, true, false, zero, suc, length, nat_lt, IsFrameOf, refl, ap, sym, subst}
use Rattle.ckpt_log.proofs.Names.{take, arith, flat_map, range_with_len, Image, shape_of, committed_slot, committed_bytes, option_at, frame_sector, row}
use Rattle.ckpt_log.proofs.Names.{same_sectors, same_shaped, SameFrom, SameBlocks, SameHeader, SameDirectory, SameFrames, SameOpening, SameSaved, SameUnits}
use Rattle.ckpt_log.proofs.Names.{SameWhereRead, frame_at, directory_in, directory_bytes, directory_sector, directory_length, sectors_from, place_length}
use Rattle.ckpt_log.proofs.Names.{CheckpointHeader, SealedHeader, Entry, Plan, IsPlan, SavedState, Encodes, HasDirectory, AreEntriesIf, half_sector}
use Rattle.ckpt_log.proofs.Names.{frame_slot_in, slot_sector, sector_or, HomesAreBehind, FramesAreBehind, IsReady, NewIsDenoted, OldIsDenoted, Version}
use Rattle.ckpt_log.proofs.Names.{Commits, CommitsIf, CommitsUnsealed, HasUnits, Sums, SparesRest, header_place, header_bytes}
use Rattle.layout.specs.Homes.{range_with}
use Rattle.layout.specs.sealed.Cluster.{IsCluster}
use Rattle.layout.specs.sealed.Directory.{AreEntries}
use Rattle.layout.specs.sealed.Opening.{Commits as CommitsSealed, gate_sector, header_sector}
use Rattle.layout.specs.sealed.Summed.{IsSummed}
use Rattle.layout.specs.sealed.Root.{Unit, root_of}
use Rattle.layout.specs.sealed.Sector.{seal_in}
use Rattle.layout.specs.sealed.Units.{begins_unit, block_in, cluster_count, unit_bytes, unit_in, units_in}
use Rattle.layout.specs.declared.version.Version.TheVariants.{One, Two, Three}
use Rattle.layout.proofs.OneHeader.{one_committed}
use Rattle.layout.proofs.SealedSlots.{are_slots, opens_in, same_gate, same_header as same_header_number, slots_in}
use Rattle.ckpt_log.proofs.Places.{half_behind, sealed_length, spare_from, spare_sectors}
use Rattle.ckpt_log.proofs.SealedReading.{SameNumbers, committed_too}

-- ---- the committed header

-- versions 1 and 2: the four sectors
pub record SameFour (old new : Image) : Type 0 where
  pub first : new 1 ≡ old 1
  pub first_gate : new 2 ≡ old 2
  pub second : new 3 ≡ old 3
  pub second_gate : new 4 ≡ old 4

four : (v : Version) (old new : Image) → (row v).sealed ≡ false → SameOpening v old new → SameFour old new
four One old new is same = record {
  first = same.headers 0 (omega arith);
  first_gate = same.gates 0 (omega arith);
  second = same.headers 1 (omega arith);
  second_gate = same.gates 1 (omega arith);
}
four Two old new is same = record {
  first = same.headers 0 (omega arith);
  first_gate = same.gates 0 (omega arith);
  second = same.headers 1 (omega arith);
  second_gate = same.gates 1 (omega arith);
}
four Three old new is same = absurd (cc is)

same_slot : (old new : Image) → SameFour old new → committed_slot new ≡ committed_slot old
same_slot old new same =
    let one : new 1 ≡ old 1 = same.first in
    let two : new 2 ≡ old 2 = same.first_gate in
    let three : new 3 ≡ old 3 = same.second in
    let four : new 4 ≡ old 4 = same.second_gate in
    rw (one, two, three, four) refl

same_option : (old new : Image) (slot : Option ℕ) → SameFour old new → committed_slot old ≡ slot → option_at new slot ≡ option_at old slot
same_option old new slot same is = grind (arith, nat_tests)

pub same_bytes : (old new : Image) → SameFour old new → committed_bytes new ≡ committed_bytes old
same_bytes old new same =
    ap (option_at new) (same_slot old new same) ∙ same_option old new (committed_slot old) same refl

same_unsealed : (old new : Image) (h : SealedHeader) → SameFour old new → CommitsUnsealed old h → CommitsUnsealed new h
same_unsealed old new h same is = record { spelt = same_bytes old new same ∙ is.spelt; sums = is.sums; fits = is.fits }

-- version 3
module _ (old new : Image) (same : SameOpening Three old new) where
  same_header_at : (k : ℕ) → k < 3 → new (header_sector k) ≡ old (header_sector k)
  same_header_at k lt = subst (λ (i : ℕ). new i ≡ old i) (omega arith) (same.headers k lt)

  same_gate_at : (k : ℕ) → k < 3 → new (gate_sector k) ≡ old (gate_sector k)
  same_gate_at k lt = subst (λ (i : ℕ). new i ≡ old i) (omega arith) (same.gates k lt)

  same_numbers : SameNumbers (slots_in old) (slots_in new)
  same_numbers = record {
    header = λ k lt. same_header_number old new (slots_in old) (slots_in new) k (are_slots old) (are_slots new) (sym (same_header_at k lt));
    gate = λ k lt. same_gate old new (slots_in old) (slots_in new) k (are_slots old) (are_slots new) (sym (same_gate_at k lt));
  }

  same_sealed : (h : SealedHeader) → CommitsSealed old h → CommitsSealed new h
  same_sealed h is =
      let opens = opens_in old h is in
      let s : ℕ = h.header.sequence in
      record {
        slots = slots_in new;
        are = are_slots new;
        opens = record {
          committed = committed_too (slots_in old) (slots_in new) s same_numbers opens.committed;
          bytes = same_header_at (s % 3) (omega arith) ∙ opens.bytes;
        };
        fits = is.fits;
      }

pub same_header : SameHeader
same_header One old new same h is = same_unsealed old new h (four One old new refl same) is
same_header Two old new same h is = same_unsealed old new h (four Two old new refl same) is
same_header Three old new same h is = same_sealed old new same h is

-- ---- directory, frames and units

same_entries : (b : Bool) (old new : Image) (p : Plan) (generation n : ℕ) (es : List Entry) → (row p.version).sealed ≡ b → length es ≡ n →
    SameFrom (directory_sector p generation) (directory_length p.version n) old new → AreEntriesIf b old p generation es →
    AreEntriesIf b new p generation es
same_entries true old new p generation n es is count same are = λ j lt.
    let all = sealed_length p.version n is in
    same j (omega (arith, lt, count, all)) ∙ are j lt
same_entries false old new p generation n es is count same are =
    ap (λ (k : ℕ). directory_in new p generation k) count
    ∙ ap (take (16 * n)) (same_sectors (directory_sector p generation) (directory_length p.version n) old new same)
    ∙ ap (λ (k : ℕ). directory_in old p generation k) (sym count) ∙ are

pub same_directory : SameDirectory
same_directory old new p h es same was = record {
  count = was.count;
  fits = was.fits;
  spelt = same_entries (row p.version).sealed old new p h.header.generation h.header.entries es refl was.count same was.spelt;
  sums = was.sums;
}

pub same_frames : SameFrames
same_frames old new p h es object same = same_shaped (frame_sector p h.generation es object) (shape_of p object) old new same

-- a function that gives the same of each number in a range gives the same of all
same_all : (f g : ℕ → List Unit) (at n : ℕ) → ((i : ℕ) → i < at + n → f i ≡ g i) →
    flat_map f (range_with_len at n) ≡ flat_map g (range_with_len at n)
same_all f g at zero same = refl
same_all f g at (suc n) same =
    ap (λ (us : List Unit). us ++ flat_map f (range_with_len (at + 1) n)) (same at (omega arith))
    ∙ ap (λ (us : List Unit). g at ++ us) (same_all f g (at + 1) n (λ i lt. same i (omega (arith, lt))))

module _ (old new : Image) (p : Plan) (generation : ℕ) (es : List Entry) (same : SameBlocks p generation es old new) where
  abbrev count : ℕ
  count = p.geometry.nodes + p.geometry.pages

  same_block : (object : ℕ) → object < count → block_in new p generation es object ≡ block_in old p generation es object
  same_block object lt = same_sectors (frame_sector p generation es object) (place_length p object) old new (same object lt)

  same_first : (object : ℕ) → object < count → 0 < place_length p object →
      new (frame_sector p generation es object) ≡ old (frame_sector p generation es object)
  same_first object lt some =
      let place : frame_sector p generation es object + 0 ≡ frame_sector p generation es object = omega arith in
      subst (λ (i : ℕ). new i ≡ old i) place (same object lt 0 some)

  some_sectors : (object : ℕ) → nat_lt object p.geometry.nodes ≡ false → 0 < place_length p object
  some_sectors object page = rw page (omega arith)

  abbrev either : Image → ℕ → Bool → List ℕ
  either image object node = if node then block_in image p generation es object else image (frame_sector p generation es object)

  same_unit : (object : ℕ) → object < count → (node : Bool) → nat_lt object p.geometry.nodes ≡ node →
      unit_bytes new p generation es object ≡ unit_bytes old p generation es object
  same_unit object lt true is = ap (either new object) is ∙ same_block object lt ∙ ap (either old object) (sym is)
  same_unit object lt false is =
      ap (either new object) is ∙ same_first object lt (some_sectors object is) ∙ ap (either old object) (sym is)

  same_list : units_in new p generation es ≡ units_in old p generation es
  same_list =
      same_all (λ object. if begins_unit p object then unit_in new p generation es object ∷ [] else [])
      (λ object. if begins_unit p object then unit_in old p generation es object ∷ [] else []) 0 count
      (λ object lt.
      ap (λ (bytes : List ℕ). if begins_unit p object then record { number = object; seal = seal_in bytes } ∷ [] else [])
      (same_unit object (omega (arith, lt)) (nat_lt object p.geometry.nodes) refl))

pub same_units : SameUnits
same_units old new p root generation es same was = record {
  clusters = λ object lt begins.
      subst (IsCluster (cluster_count p.version (range_with p.ranges object) object))
      (sym (same_block old new p generation es same object (omega (arith, lt)))) (was.clusters object lt begins);
  pages = λ object le lt. subst IsSummed (sym (same_block old new p generation es same object lt)) (was.pages object le lt);
  root_is = ap root_of (same_list old new p generation es same) ∙ was.root_is;
}

-- ---- a saved state without its committed header

-- the same bytes in the superblock, in the directory of h, and in the block of each object
pub record SameBehind (p : Plan) (h : CheckpointHeader) (es : List Entry) (old new : Image) : Type 0 where
  pub superblock : new 0 ≡ old 0
  pub directory : SameFrom (directory_sector p h.generation) (directory_length p.version h.entries) old new
  pub blocks : SameBlocks p h.generation es old new

ready_same : (old new : Image) (size : ℕ) (s : SavedState) (h : SealedHeader) → SameBehind s.plan s.header s.directory old new →
    IsReady old size s h → IsReady new size s h
ready_same old new size s h same was = record {
  same = was.same;
  plan = record {
    least = was.plan.least;
    whole = was.plan.whole;
    fits = was.plan.fits;
    spelt = same.superblock ∙
        was.plan.spelt;
  };
  header = was.header;
  directory = same_directory old new s.plan h s.directory
      (subst (λ (g : CheckpointHeader). SameFrom (directory_sector s.plan g.generation) (directory_length s.plan.version g.entries) old new)
      (sym was.same) same.directory) was.directory;
  count = was.count;
  each = λ object lt. subst (λ (bytes : List ℕ). IsFrameOf s.plan.geometry s.header.age object bytes (frame_at s.frames object))
      (sym (same_frames old new s.plan s.header s.directory object (same.blocks object lt))) (was.each object lt);
  units = λ is. same_units old new s.plan h.root s.header.generation s.directory same.blocks (was.units is);
}

ready_of : {image : Image} {size : ℕ} {s : SavedState} (is : Encodes image size s) → IsReady image size s is.commit
ready_of is = record {
  same = is.same;
  plan = is.plan;
  header = is.header.fits;
  directory = is.directory;
  count = is.count;
  each = is.each;
  units = is.units;
}

pub encoded : {image : Image} {size : ℕ} {s : SavedState} {h : SealedHeader} → IsReady image size s h → Commits s.plan.version image h →
    Encodes image size s
encoded {h = h} ready commits = record {
  plan = ready.plan;
  commit = h;
  same = ready.same;
  header = record { committed = commits; fits = ready.header };
  directory = ready.directory;
  count = ready.count;
  each = ready.each;
  units = ready.units;
}

pub same_saved : SameSaved
same_saved old new size s first same was =
    encoded
    (ready_same old new size s was.commit
    (record { superblock = first 0 (omega arith); directory = same.directory; blocks = same.frames }) (ready_of was))
    (same_header s.plan.version old new same.headers was.commit was.header.committed)

-- ---- what a device denotes after a commit, and after a crash during it

behind_by : (slot : Option ℕ) (p : Plan) (generation : ℕ) {least home : ℕ} → least ≤ half_sector p generation → least ≤ home →
    least ≤ sector_or slot (slot_sector p generation) home
behind_by None p generation half le = le
behind_by (Some slot) p generation half le = omega (arith, half)

pub frames_behind : FramesAreBehind
frames_behind p generation es object fits behind = behind_by (frame_slot_in p es object) p generation (half_behind p generation fits) behind

-- a change of a header slot keeps all else of a saved state
spares_behind : {old new : Image} {size : ℕ} {s : SavedState} {h : SealedHeader} (next : SealedHeader) → HomesAreBehind s.plan →
    SparesRest s.plan.version next old new → IsReady old size s h → SameBehind s.plan s.header s.directory old new
spares_behind {old} {new} {s = s} next homes spares was =
    let v = s.plan.version in
    let half = half_behind s.plan s.header.generation was.plan.fits in record {
      superblock = (spare_sectors v old new next (half_sector s.plan s.header.generation) 0 half spares).0;
      directory = (spare_sectors v old new next (directory_sector s.plan s.header.generation)
          (directory_length v s.header.entries) (omega (arith, half)) spares).1;
      blocks = λ object lt.
          let le = frames_behind s.plan s.header.generation s.directory object was.plan.fits (homes object lt) in
          (spare_sectors v old new next (frame_sector s.plan s.header.generation s.directory object) (place_length s.plan object)
          le spares).1;
    }

pub new_denoted : NewIsDenoted
new_denoted old new size s h homes ready has =
    encoded (ready_same old new size s h (spares_behind h homes has.elsewhere ready) ready) has.committed

pub old_denoted : OldIsDenoted
old_denoted seen before c size s next homes shown was one spares stays =
    let same : shown.commit ≡ was.commit =
    one_committed s.plan.version before shown.commit was.commit (one shown.commit shown.header.committed) was.header.committed in
    let ready = ready_of was in
    encoded (ready_same before c size s was.commit (spares_behind next homes spares ready) ready)
    (subst (Commits s.plan.version c) same (stays shown.commit shown.header.committed))
