-- The versions of the layout.
use Rattle.std.specs.Prelude.{◌≡◌, ◌+◌, ◌-◌, ◌*◌, ◌/◌, ℕ, true, false}
use Rattle.layout.specs.declared.version.Row.{Row}
use Rattle.layout.specs.declared.version.Version.{Version}
use Rattle.layout.specs.declared.version.Version.TheVariants.{One, Two, Three}

-- the numbers of each version
abbrev pub row : Version → Row
row One = record {
  number = 1;
  opening_step = 1;
  header_slots = 2;
  first_home = 5;
  alignment = 1;
  cluster_sectors = 2;
  cluster_nodes = 1;
  node_bytes = 1024;
  sector_entries = 32;
  first_sequence = 0;
  sealed = false;
}
row Two = record {
  number = 2;
  opening_step = 1;
  header_slots = 2;
  first_home = 5;
  alignment = 1;
  cluster_sectors = 8;
  cluster_nodes = 5;
  node_bytes = 800;
  sector_entries = 32;
  first_sequence = 0;
  sealed = false;
}
row Three = record {
  number = 3;
  opening_step = 8;
  header_slots = 3;
  first_home = 56;
  alignment = 8;
  cluster_sectors = 8;
  cluster_nodes = 5;
  node_bytes = 800;
  sector_entries = 30;
  first_sequence = 2;
  sealed = true;
}

-- a version without seals
abbrev pub IsOpened : Version → Type 0
IsOpened v = (row v).sealed ≡ false

-- how many sectors a directory of n entries takes
unfoldable pub directory_length : Version → ℕ → ℕ
directory_length v n = (n + (row v).sector_entries - 1) / (row v).sector_entries

-- the least multiple of the version's alignment that isn't below n
abbrev pub aligned : Version → ℕ → ℕ
aligned v n = (row v).alignment * ((n + (row v).alignment - 1) / (row v).alignment)
