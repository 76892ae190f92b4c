-- Where slots and directories lie.
use Rattle.ckpt_log.proofs.Names.{nat_tests, inl, arith, half_within, half_apart, few_sectors, SlotsAreInside, FramesAreInSlots, DirectoriesAreInside}
use Rattle.ckpt_log.proofs.Names.{HalvesAreWithin, HalvesAreApart, SlotsAreApart, SlotsSpareDirectories, ℕ, Plan, IsPlan}
use Rattle.ckpt_log.proofs.Names.{half_sector, same_sectors, same_shaped, SequencesAreReported, NextFollows, HeadersSpareSectors}
use Rattle.ckpt_log.proofs.Names.{HeadersSpareFrames, HeadersSpareSlots, HeadersSpareDirectories, half_lies, fewer_entries, half_has}
use Rattle.std.proofs.Common.{◌≡◌, ◌+◌, ◌-◌, ◌*◌, ◌/◌, ◌<◌, ◌≤◌, ◌∷◌}
use Rattle.ckpt_log.proofs.Names.{[], get_or, length, subst, true, row, Version, SealedHeader, Image, SparesRest}
use Rattle.ckpt_log.proofs.Names.{shape_of, place_length, frame_sector, slot_sector, directory_sector, directory_length}
use Rattle.layout.specs.Half.{half_of}
use Rattle.layout.specs.Superblock.{MayBegin, half_extent, half_start}
use Rattle.layout.specs.declared.half.Half.{Half}
use Rattle.layout.specs.declared.half.Half.TheVariants.{First, Second}
use Rattle.layout.specs.declared.version.Version.TheVariants.{One, Two, Three}
use Rattle.layout.proofs.Halves.{half_at, many}
use Rattle.ckpt_log.specs.AnyVersion.{gate_at, gate_place, header_at, header_place}
use Rattle.ckpt_log.specs.SavedSectors.{SameOpening}
use Rattle.device.specs.Calls.{Elsewhere}
use Rattle.ckpt_log.proofs.Commits.{sequence_of}

pub slots_inside : SlotsAreInside
slots_inside p generation slot lt =
    let has = half_has p.version p.geometry in
    record { starts = omega arith; ends = omega (arith, has, lt) }

pub frames_in_slots : FramesAreInSlots
frames_in_slots p generation slot object = let le = few_sectors p object in record { starts = omega arith; ends = omega (arith, le) }

pub directories_inside : DirectoriesAreInside
directories_inside p generation n le =
    let has = half_has p.version p.geometry in
    let fewer = fewer_entries p.version n p.geometry.log le in
    record { starts = omega arith; ends = omega (arith, has, fewer) }

pub slots_apart : SlotsAreApart
slots_apart = grind (arith, nat_tests)

pub slots_spare_directories : SlotsSpareDirectories
slots_spare_directories p generation slot n lt = inl (omega arith)

pub halves_within : HalvesAreWithin
halves_within p generation fits = half_within p generation fits

pub halves_apart : HalvesAreApart
halves_apart p a b fits differ = half_apart p a b fits differ

pub ruleset place_laws = (
  slots_inside,
  frames_in_slots,
  directories_inside,
  halves_within,
  halves_apart,
  slots_apart,
  slots_spare_directories,
)

-- ---- what doesn't overlap the headers

pub sequences_reported : SequencesAreReported
sequences_reported h fits = sequence_of h fits

pub next_follows : NextFollows
next_follows v image h next commits after = (h, commits, after)

-- the slot of a header lies after the superblock and before the homes
pub record IsOpening (v : Version) (h : SealedHeader) : Type 0 where
  pub header_low : 0 < header_at v h
  pub header_high : header_at v h < (row v).first_home
  pub gate_low : 0 < gate_at v h
  pub gate_high : gate_at v h < (row v).first_home

pub opening_of : (v : Version) (h : SealedHeader) → IsOpening v h
opening_of One h = record { header_low = omega arith; header_high = omega arith; gate_low = omega arith; gate_high = omega arith }
opening_of Two h = record { header_low = omega arith; header_high = omega arith; gate_low = omega arith; gate_high = omega arith }
opening_of Three h = record { header_low = omega arith; header_high = omega arith; gate_low = omega arith; gate_high = omega arith }

pub spare_from : (v : Version) (old new : Image) (h : SealedHeader) (i : ℕ) → (row v).first_home ≤ i → SparesRest v h old new →
    new i ≡ old i
spare_from v old new h i behind spares =
    let is = opening_of v h in spares i (λ e. omega (arith, e, behind, is.header_high)) (λ e. omega (arith, e, behind, is.gate_high))

pub spare_sectors : HeadersSpareSectors
spare_sectors v old new h at n behind spares =
    let is = opening_of v h in (
      spares 0 (λ e. omega (arith, e, is.header_low)) (λ e. omega (arith, e, is.gate_low)),
      λ i lt. spare_from v old new h (at + i) (omega (arith, behind)) spares,
    )

-- a change of a header slot changes only sectors before the homes, but not the superblock
pub spares_opening : (v : Version) (h : SealedHeader) (old new : Image) → SparesRest v h old new →
    Elsewhere 1 ((row v).first_home - 1) old new
spares_opening v h old new spares =
    let is = opening_of v h in record {
      before = λ i lt. spares i (λ e. omega (arith, e, lt, is.header_low)) (λ e. omega (arith, e, lt, is.gate_low));
      after = λ i le. spare_from v old new h i (omega (arith, le, is.header_high)) spares;
    }

pub first_some : (v : Version) → 0 < (row v).first_home
first_some One = omega arith
first_some Two = omega arith
first_some Three = omega arith

places_low : (v : Version) (k : ℕ) → k < (row v).header_slots → (header_place v k < (row v).first_home) × (gate_place v k <
    (row v).first_home)
places_low One k lt = (omega (arith, lt), omega (arith, lt))
places_low Two k lt = (omega (arith, lt), omega (arith, lt))
places_low Three k lt = (omega (arith, lt), omega (arith, lt))

-- a change behind the header slots keeps them
pub opening_stays : (v : Version) (at n : ℕ) (old new : Image) → (row v).first_home ≤ at → Elsewhere at n old new → SameOpening v old new
opening_stays v at n old new behind change = record {
  headers = λ k lt. let low = places_low v k lt in change.before (header_place v k) (omega (arith, low.0, behind));
  gates = λ k lt. let low = places_low v k lt in change.before (gate_place v k) (omega (arith, low.1, behind));
}

pub spare_frames : HeadersSpareFrames
spare_frames old new h p generation es object behind spares =
    same_shaped (frame_sector p generation es object) (shape_of p object) old new
    (spare_sectors p.version old new h (frame_sector p generation es object) (place_length p object) behind spares).1

half_begins : (p : Plan) (k : ℕ) → IsPlan p → k < 2 → MayBegin p.version (get_or
    (half_extent p.version p.geometry p.half_0 ∷ half_extent p.version p.geometry p.half_1 ∷ []) k (record { sector = 0; length = 0 }))
half_begins p k fits few =
    subst (MayBegin p.version) (half_at p k) (fits.begin (length p.ranges + k) (record { sector = 0; length = 0 }) (omega (arith, many p)))

starts_behind : (p : Plan) (h : Half) → IsPlan p → (row p.version).first_home ≤ half_start p h
starts_behind p First fits = (half_begins p 0 fits (omega arith)).0
starts_behind p Second fits = (half_begins p 1 fits (omega arith)).0

pub half_behind : (p : Plan) (generation : ℕ) → IsPlan p → (row p.version).first_home ≤ half_sector p generation
half_behind p generation fits = starts_behind p (half_of generation) fits

pub spare_slots : HeadersSpareSlots
spare_slots old new h p generation slot object fits spares =
    let half = half_behind p generation fits in
    same_shaped (slot_sector p generation slot) (shape_of p object) old new
    (spare_sectors p.version old new h (slot_sector p generation slot) (place_length p object) (omega (arith, half)) spares).1

pub spare_directories : HeadersSpareDirectories
spare_directories old new h p generation n fits spares =
    let half = half_behind p generation fits in
    (spare_sectors p.version old new h (directory_sector p generation) (directory_length p.version n) (omega (arith, half)) spares).1

-- ---- directories of version 3

pub sealed_length : (v : Version) (n : ℕ) → (row v).sealed ≡ true → directory_length v n ≡ (n + 29) / 30
unfolding directory_length
sealed_length One n is = absurd (cc is)
sealed_length Two n is = absurd (cc is)
sealed_length Three n is = omega arith
