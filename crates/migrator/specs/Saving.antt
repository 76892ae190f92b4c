-- The conditions for writing a directory and publishing a header.
use Rattle.migrator.specs.Names.{ℕ, None, List, length, replicate, Image, Disk, Elsewhere, Entry, Extent}
use Rattle.migrator.specs.Names.{CheckpointHeader, entry_at, directory_sector, directory_length, count_of, Plan}
use Rattle.migrator.specs.Names.{IsApart, directory_extent, place_extent, home_extent, AreKeepable, IsFrameOf}
use Rattle.migrator.specs.Names.{next_saved, Some, Sums, row}
use Rattle.std.specs.Prelude.{◌≡◌, ◌+◌, ◌-◌, ◌<◌, ◌≤◌, ◌^◌}
use Rattle.migrator.specs.declared.books.Books.{Books}
use Rattle.migrator.specs.declared.table.Place.{Place}
use Rattle.migrator.specs.declared.table.Place.TheVariants.{Nowhere, Whole}
use Rattle.migrator.specs.Durable.{IsDurable, IsIntact, frozen_generation, working_generation, IsSoundOn, frozen_of}
use Rattle.migrator.specs.Durable.{first_bytes, first_frame, puts, seen_by, stored_on}
use Rattle.migrator.specs.Put.{IsSlotSummed}
use Rattle.migrator.specs.Table.{place_at, whole_count}
use Rattle.migrator.specs.Spared.{Spares, SparesFrames}

-- only the directory, and then header slots, may differ
pub record SavesOnly (p : Plan) (next : CheckpointHeader) (old new : Image) : Type 0 where
  pub between : Image
  pub directory : Elsewhere (directory_sector p next.generation) (directory_length p.version next.entries) old between
  pub header : Elsewhere 1 ((row p.version).first_home - 1) between new

-- no frame written to this half overlaps the extent e
abbrev pub SparesPuts : Plan → ℕ → List Place → Extent → Type 0
SparesPuts p generation ps e = (n s : ℕ) → n < count_of p → place_at ps n ≡ Whole s →
    IsApart (place_extent p generation s n) e

-- no frame that the books name, at home or in the log, overlaps the extent e
pub record SparesKept (b : Books) (e : Extent) : Type 0 where
  pub frames : SparesFrames b.plan b.header.generation b.directory e
  pub homes : (i : ℕ) → i < b.moved → IsApart (home_extent b.plan (entry_at b.directory i).object) e
  pub frozen : SparesPuts b.plan (frozen_generation b) b.frozen e
  pub working : SparesPuts b.plan (working_generation b) b.working e

-- the books after this header, root and directory were adopted: nothing is frozen
abbrev pub adopted : CheckpointHeader → Sums → List Entry → Books → Books
adopted next root es b = record {
  plan = b.plan;
  header = next;
  root = root;
  directory = es;
  moved = 0;
  frozen = replicate (length b.frozen) Nowhere;
  frozen_size = None;
  working = b.working;
  unwritten = b.unwritten;
}

-- this header, root and directory may be adopted: all their frames are written
pub record MayAdopt (disk : Disk) (b : Books) (next : CheckpointHeader) (root : Sums) (es : List Entry) : Type 0 where
  pub stands : IsDurable disk b
  pub written : b.unwritten ≡ None
  pub sound : IsSoundOn disk b
  pub follows : b.header.sequence + 1 ≡ next.sequence
  pub kept : IsIntact disk.sectors disk.seen (adopted next root es b)
  -- the new directory overlaps neither the saved state nor any frame that the old or the new books name
  pub apart : Spares b.plan b.header b.directory (directory_extent b.plan next.generation next.entries)
  pub spares : SparesKept b (directory_extent b.plan next.generation next.entries)
  pub spares_next : SparesKept (adopted next root es b) (directory_extent b.plan next.generation next.entries)

-- ---- the conditions of the three adoptions: a commit, the end of a migration, a journaled page

-- the frozen checkpoint has all its `size` frames in the log, and may be committed at this age
pub record MayCommitAt (disk : Disk) (b : Books) (size age : ℕ) : Type 0 where
  pub stands : IsDurable disk b
  pub running : b.frozen_size ≡ Some size
  pub stable : size ≤ whole_count b.frozen
  pub sound : IsSoundOn disk b
  pub later : b.header.age < age
  pub most : age ≤ 2 ^ 62
  pub keepable : AreKeepable b.plan.geometry age
      (next_saved puts age (frozen_of (seen_by disk.seen b) b size) (stored_on disk b).saved).frames

-- all saved objects are home, but the header still has entries
pub record MayFinish (disk : Disk) (b : Books) : Type 0 where
  pub stands : IsDurable disk b
  pub some : 0 < b.header.entries
  pub all : b.moved ≡ b.header.entries
  pub sound : IsSoundOn disk b

-- no checkpoint is frozen, and all saved objects are home
pub record IsIdle (disk : Disk) (b : Books) : Type 0 where
  pub stands : IsDurable disk b
  pub free : b.frozen_size ≡ None
  pub home : b.header.entries ≡ 0
  pub sound : IsSoundOn disk b

-- the store is idle; the new frame of page n, with its sums, is in slot 0 of the half that the saved generation used
pub record MayReplace (disk : Disk) (b : Books) (n age : ℕ) : Type 0 where
  pub idle : IsIdle disk b
  pub open idle use *
  pub object : n < count_of b.plan
  pub page : b.plan.geometry.nodes ≤ n
  pub spelt : IsFrameOf b.plan.geometry age n (first_bytes disk.seen b n) (first_frame disk.seen b n)
  pub summed : IsSlotSummed disk.seen b.plan b.header.generation 0 n
  pub later : b.header.age < age
  pub most : age ≤ 2 ^ 62
