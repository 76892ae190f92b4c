-- The memory of a store, and reading an image into it.
use Rattle.migrator.specs.Names.{None, List, length, replicate, take, vec_capacity, Frame, Entry, SealedHeader, Image}
use Rattle.migrator.specs.Names.{count_of, Plan, frames_read}
use Rattle.std.specs.Prelude.{◌≡◌, ◌≤◌}
use Rattle.migrator.specs.declared.durable.open.Reserve.{Reserve}
use Rattle.migrator.specs.declared.books.Books.{Books}
use Rattle.migrator.specs.declared.table.Place.{Place}
use Rattle.migrator.specs.declared.table.Place.TheVariants.{Nowhere}
use Rattle.migrator.specs.Opened.{IsRead}

-- memory for two directories, for the places of all objects, of which none has a slot, and for a cluster
pub record IsReserve (p : Plan) (r : Reserve) : Type 0 where
  pub directory : length r.directories.saved.items ≡ p.geometry.log
  pub room : 4096 ≤ vec_capacity r.directories.saved
  pub frozen : r.tables.frozen ≡ replicate (count_of p) Nowhere
  pub working : r.tables.working ≡ replicate (count_of p) Nowhere
  pub buffer : r.buffer ≡ None

-- an image was read: its header, its directory into the reserve, and its frames into the intake `taken`
pub record IsReadInto {I : Type 0} (Took : I → List Frame → Type 0) (image : Image) (p : Plan) (h : SealedHeader)
    (r : Reserve) (taken : I) : Type 0 where
  pub read : IsRead image p h r.directories.saved.items
  pub took : Took taken (frames_read image p h.header.generation
      (take h.header.entries r.directories.saved.items))
  pub reserved : IsReserve p r

-- the books of an image that was just opened
abbrev pub first_books : Plan → SealedHeader → List Entry → List Place → List Place → Books
first_books p h es fs ws = record {
  plan = p;
  header = h.header;
  root = h.root;
  directory = take h.header.entries es;
  moved = 0;
  frozen = fs;
  frozen_size = None;
  working = ws;
  unwritten = None;
}
