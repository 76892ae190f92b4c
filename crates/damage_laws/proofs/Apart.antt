-- Blocks lie apart from the headers and from the directory.
use Rattle.damage_laws.proofs.Names.{ℕ, true, List, Option, None, Some, ap, refl, subst, arith, All-get_or, IsDirectory, IsEntry, home_place, place_length}
use Rattle.damage_laws.proofs.Names.{directory_sector, frame_sector, frame_slot_in, sector_or, slot_sector, count_of, IsApart, IsPlan, Plan, row, Entry, Extent}
use Rattle.damage_laws.proofs.Names.{Version, apart_inside, itself, home_extent, frame_slot_entry, places_begin, places_spare_log, directory_extent}
use Rattle.damage_laws.proofs.Names.{place_extent, slot_extent, directories_inside, frames_in_slots, half_behind, slots_spare_directories, frames_behind}
use Rattle.std.proofs.Common.{◌≡◌, ◌<◌, ◌≤◌}
use Rattle.damage_laws.proofs.Places.{is_three}

-- the sectors of an object's block
abbrev pub block_extent : Plan → ℕ → List Entry → ℕ → Extent
block_extent p generation es object = record { sector = frame_sector p generation es object; length = place_length p object }

-- the slot of a block is a slot of the log
pub slot_inside : (p : Plan) (es : List Entry) (object slot : ℕ) → IsDirectory p.geometry es → frame_slot_in p es object ≡ Some slot →
    slot < p.geometry.log
slot_inside p es object slot fits is =
    let entry = frame_slot_entry p es object slot is in
    let at = All-get_or (IsEntry p.geometry) es entry.index (record { object = 0; slot = 0 }) entry.within fits.each in
    subst (λ (n : ℕ). n < p.geometry.log) entry.slot_is at.slot

module _ (p : Plan) (generation : ℕ) (es : List Entry) (fits : IsPlan p) (directory : IsDirectory p.geometry es) where
  apart_by : (object n : ℕ) → object < count_of p → n ≤ p.geometry.log → (slot : Option ℕ) → frame_slot_in p es object ≡ slot →
      IsApart (record { sector = sector_or slot (slot_sector p generation) (home_place p object); length = place_length p object })
      (directory_extent p generation n)
  apart_by object n lt few None is =
      apart_inside (home_extent p object) (directory_extent p generation n) (home_extent p object) _
      (itself (home_extent p object)) (directories_inside p generation n few) (places_spare_log p object generation fits lt)
  apart_by object n lt few (Some slot) is =
      apart_inside (place_extent p generation slot object) (directory_extent p generation n) (slot_extent p generation slot)
      (directory_extent p generation n) (frames_in_slots p generation slot object) (itself (directory_extent p generation n))
      (slots_spare_directories p generation slot n (slot_inside p es object slot directory is))

  pub block_apart : (object n : ℕ) → object < count_of p → n ≤ p.geometry.log →
      IsApart (block_extent p generation es object) (directory_extent p generation n)
  block_apart object n lt few = apart_by object n lt few (frame_slot_in p es object) refl

  module _ (sealed : (row p.version).sealed ≡ true) where
    first_home : (row p.version).first_home ≡ 56
    first_home = ap (λ (v : Version). (row v).first_home) (is_three p.version sealed)

    pub block_behind : (object : ℕ) → object < count_of p → 56 ≤ frame_sector p generation es object
    block_behind object lt =
        omega (arith, first_home, frames_behind p generation es object fits (places_begin p object fits lt))

    pub directory_behind : 56 ≤ directory_sector p generation
    directory_behind = omega (arith, first_home, half_behind p generation fits)
