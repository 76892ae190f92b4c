-- Sectors outside a saved state.
use Rattle.migrator.specs.Names.{ℕ, List, Disk, Elsewhere, Tears, IsTorn, LeavesOnly, Entry, Extent, CheckpointHeader}
use Rattle.migrator.specs.Names.{place_length, frame_sector, count_of, Plan, IsApart, directory_extent, row}
use Rattle.std.specs.Prelude.{◌≡◌, ◌⊎◌, ◌<◌, ◌≤◌}

-- the sectors of an object's frame
abbrev pub frame_extent : Plan → ℕ → List Entry → ℕ → Extent
frame_extent p generation es n = record { sector = frame_sector p generation es n; length = place_length p n }

-- no object's frame overlaps the extent e
abbrev pub SparesFrames : Plan → ℕ → List Entry → Extent → Type 0
SparesFrames p generation es e = (n : ℕ) → n < count_of p → IsApart (frame_extent p generation es n) e

-- the extent e overlaps no sector that a saved state is read from
pub record Spares (p : Plan) (h : CheckpointHeader) (es : List Entry) (e : Extent) : Type 0 where
  pub headers : (row p.version).first_home ≤ e.sector
  pub directory : (h.entries ≡ 0) ⊎ IsApart (directory_extent p h.generation h.entries) e
  pub frames : SparesFrames p h.generation es e

-- only the n sectors from `at` on may have changed; a crash may leave any bytes in them
pub record Touches (at n : ℕ) (old new : Disk) : Type 0 where
  pub size : new.sectors ≡ old.sectors
  pub elsewhere : Elsewhere at n old.seen new.seen
  pub crash : Tears at n old new
  pub any_moment : LeavesOnly old new (λ c. IsTorn at n old c)
