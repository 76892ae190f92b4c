-- A durable store: its invariant over the device and the books in memory, and the frames that it stores.
use Rattle.migrator.specs.Names.{⊤, ℕ, Option, Some, None, List, length, option_map, slice_set, replicate, Frame}
use Rattle.migrator.specs.Names.{frame_at, Image, Disk, Agrees, Narrows, Peeks, Entry, CheckpointHeader, IsDirectory}
use Rattle.migrator.specs.Names.{entry_at, IsHeader, place_length, SavedState, Encodes, slot_sector, AreSpelt, state_in}
use Rattle.migrator.specs.Names.{Plan, IsPlan, SavedFrames, kept_of, LeavesSaved, FrozenView, Snapshots, freezing}
use Rattle.migrator.specs.Names.{IsObject, IsKeepable, most, Counts, LeavesEither, Result, OnOk, OnErr, moved}
use Rattle.migrator.specs.Names.{moved_saved, LeavesOneOf, committed, next_saved, true, false, HasUnits, Sums}
use Rattle.migrator.specs.Names.{SealedHeader, Version, no_sums, row, sums_if}
use Rattle.std.specs.Prelude.{◌≡◌, ◌⊎◌, ◌+◌, ◌-◌, ◌^◌, ◌<◌, ◌≤◌}
use Rattle.model.specs.declared.object.Role.TheVariants as role
use Rattle.layout.specs.Committed.{Commits as CommitsHeader}
use Rattle.migrator.specs.Gathered.{IsCopied}
use Rattle.migrator.specs.Mended.{Unwritten, mended}
use Rattle.migrator.specs.declared.books.Books.{Books}
use Rattle.migrator.specs.declared.table.Place.{Place}
use Rattle.migrator.specs.declared.table.Place.TheVariants.{Nowhere}
use Rattle.migrator.specs.Table.{place_at, slot_of, taken_count}
use Rattle.migrator.specs.Put.{Put, Absent, put_at, put_or, kept_count, overlaid, slot_bytes, slot_frame, puts_in}
use Rattle.migrator.specs.Put.{ArePut, Broken, HasFreeSlot, Kept}

-- the image that reads give: that of the device, with the unwritten cluster, if there is one, in place
abbrev pub seen_by : Image → Books → Image
seen_by image b = mended image b.unwritten

pub record DurableState (D : Type 0) : Type 0 where
  pub beneath : D
  pub books : Books

-- the generation of the frozen checkpoint; the generation of the working frames
abbrev pub frozen_generation : Books → ℕ
frozen_generation b = b.header.generation + 1

abbrev pub generation_after : ℕ → Option ℕ → ℕ
generation_after generation None = generation + 1
generation_after generation (Some size) = generation + 1 + 1

abbrev pub working_generation : Books → ℕ
working_generation b = generation_after b.header.generation b.frozen_size

-- ---- the three maps of frames

-- a frozen checkpoint: the frames written for it so far, and how many objects it writes
pub record FrozenPuts : Type 0 where
  pub put : List Put
  pub size : ℕ

-- how many of its frames are still to be written
abbrev pub left_of : FrozenPuts → ℕ
left_of f = f.size - kept_count f.put

-- the frames that a store has; `to_move` counts the saved objects that aren't home
pub record Stored : Type 0 where
  pub working : List Put
  pub frozen : Option FrozenPuts
  pub saved : SavedFrames
  pub to_move : ℕ

-- how to read a frozen state: it saves the frames written for it in place of the saved ones
abbrev pub puts : FrozenView FrozenPuts
puts = record {
  frames = λ (f : FrozenPuts) (fs : List Frame). overlaid f.put fs;
  size = λ (f : FrozenPuts). f.size;
  left = left_of;
}

-- The snapshots of a store: its frozen and saved state, without the working frames. `on_snapshots` applies a stage of
-- a checkpoint, which changes only these.
abbrev pub snapshots_in : Stored → Snapshots FrozenPuts
snapshots_in s = record { frozen = s.frozen; saved = s.saved; to_move = s.to_move }

abbrev pub on_snapshots : (Snapshots FrozenPuts → Snapshots FrozenPuts) → Stored → Stored
on_snapshots stage s = record {
  working = s.working;
  frozen = (stage (snapshots_in s)).frozen;
  saved = (stage (snapshots_in s)).saved;
  to_move = (stage (snapshots_in s)).to_move;
}

abbrev pub saved_state : Image → Books → SavedState
saved_state image b = state_in image b.plan b.header b.directory

abbrev pub frozen_of : Image → Books → ℕ → FrozenPuts
frozen_of image b size = record { put = puts_in image b.plan (frozen_generation b) b.frozen; size = size }

abbrev pub stored_in : Image → Books → Stored
stored_in image b = record {
  working = puts_in image b.plan (working_generation b) b.working;
  frozen = option_map (frozen_of image b) b.frozen_size;
  saved = kept_of (saved_state image b);
  to_move = b.header.entries - b.moved;
}

-- the frozen frame of object n, if it was written; the newest frame below the working one: the frozen one, else the
-- saved one
abbrev pub frozen_put : Option FrozenPuts → ℕ → Put
frozen_put None n = Absent
frozen_put (Some f) n = put_at f.put n

abbrev pub below_at : Stored → ℕ → Frame
below_at s n = put_or (frozen_put s.frozen n) (frame_at s.saved.frames n)

-- the newest frame of an object: the working one, else the frozen one, else the saved one
abbrev pub newest : Stored → ℕ → Frame
newest s n = put_or (put_at s.working n) (below_at s n)

-- ---- the invariant

-- each object that shares the home of entry i has its saved frame at home
abbrev pub IsHome : Image → Plan → ℕ → List Entry → ℕ → Type 0
IsHome image p generation es i = IsCopied image image p generation es (entry_at es i).object

-- if a checkpoint is frozen, all saved frames are home, and the log has slots for its `size` objects; if not, no
-- object has a frozen frame
abbrev pub MayRun : ℕ → ℕ → List Place → Option ℕ → Type 0
MayRun entries log ps None = (n : ℕ) → place_at ps n ≡ Nowhere
MayRun entries log ps (Some size) = (entries ≡ 0) × (taken_count ps ≤ size) × (size ≤ log)

abbrev pub IsRunning : Books → Option ℕ → Type 0
IsRunning b o = MayRun b.header.entries b.plan.geometry.log b.frozen o

-- superblock, header and directory are valid and fit `size` sectors, and all saved frames can be read: those of
-- entries in slots, the others at home; in version 3 their units are sealed, and add up to the root
pub record IsReadable (size : ℕ) (image : Image) (p : Plan) (h : CheckpointHeader) (root : Sums) (es : List Entry)
    : Type 0 where
  pub plan : IsPlan p
  pub inside : p.total ≤ size
  pub header : IsHeader (row p.version).first_sequence p.geometry.log h
  pub count : length es ≡ h.entries
  pub directory : IsDirectory p.geometry es
  pub saved : AreSpelt image p h.age h.generation es
  pub units : (row p.version).sealed ≡ true → HasUnits image p root h.generation es
  pub no_root : (row p.version).sealed ≡ false → root ≡ no_sums

-- an image of `size` sectors has all frames that the books name, even after a failure; its header and superblock
-- aren't checked
pub record IsIntact (size : ℕ) (image : Image) (b : Books) : Type 0 where
  pub readable : IsReadable size image b.plan b.header b.root b.directory
  pub open readable use *
  pub few : b.moved ≤ b.header.entries
  pub moved : (i : ℕ) → i < b.moved → IsHome image b.plan b.header.generation b.directory i
  pub frozen : ArePut image b.plan (frozen_generation b) b.frozen
  pub running : IsRunning b b.frozen_size
  pub working : ArePut image b.plan (working_generation b) b.working

-- a cluster that a failed commit didn't write: it belongs in the slot of a frozen node
pub record IsUnwrittenOf (p : Plan) (generation : ℕ) (o : Option ℕ) (ps : List Place) (u : Unwritten) : Type 0 where
  pub size : length u.bytes ≡ 4096
  pub count : ℕ
  pub running : o ≡ Some count
  pub object : ℕ
  pub slot : ℕ
  pub place : slot_of (place_at ps object) ≡ Some slot
  pub sector_is : u.sector ≡ slot_sector p generation slot
  pub sectors : place_length p object ≡ 8

abbrev pub HasUnwritten : Books → Unwritten → Type 0
HasUnwritten b u = IsUnwrittenOf b.plan (frozen_generation b) b.frozen_size b.frozen u

abbrev pub IfUnwrittenOf : Plan → ℕ → Option ℕ → List Place → Option Unwritten → Type 0
IfUnwrittenOf p generation o ps None = ⊤
IfUnwrittenOf p generation o ps (Some u) = IsUnwrittenOf p generation o ps u

abbrev pub MayHaveUnwritten : Books → Option Unwritten → Type 0
MayHaveUnwritten b o = IfUnwrittenOf b.plan (frozen_generation b) b.frozen_size b.frozen o

-- the frames that a device and its books store
abbrev pub stored_on : Disk → Books → Stored
stored_on disk b = stored_in (seen_by disk.seen b) b

-- the invariant of a device and its books
pub record IsDurable (disk : Disk) (b : Books) : Type 0 where
  pub kept : IsIntact disk.sectors (seen_by disk.seen b) b
  pub unwritten : MayHaveUnwritten b b.unwritten

-- a header with the root and the directory sums of its state; both are zeros in versions 1 and 2
abbrev pub with_sums : Version → CheckpointHeader → Sums → List Entry → SealedHeader
with_sums v h root es = record { header = h; root = root; directory = sums_if (row v).sealed es }

-- the committed header
abbrev pub committed_header : Books → SealedHeader
committed_header b = with_sums b.plan.version b.header b.root b.directory

-- an image encodes this saved state, and has this committed header
abbrev pub EncodesBy : Image → ℕ → SavedState → SealedHeader → Type 0
EncodesBy c size s h = Encodes c size s × CommitsHeader s.plan.version c h

-- each crash now leaves this saved state, with this committed header
abbrev pub LeavesState : Disk → SavedState → SealedHeader → Type 0
LeavesState disk s h = (c : Image) → disk.may_leave c → EncodesBy c disk.sectors s h

-- each crash now leaves the saved state; true until a publish fails
abbrev pub IsSoundOn : Disk → Books → Type 0
IsSoundOn disk b = LeavesState disk (saved_state (seen_by disk.seen b) b) (committed_header b)

-- the stored frames after a working frame of object n was written; after a frozen one was
abbrev pub with_working : ℕ → Put → Stored → Stored
with_working n put s = record s { working = slice_set s.working n put }

abbrev pub with_put : ℕ → Put → FrozenPuts → FrozenPuts
with_put n put f = record { put = slice_set f.put n put; size = f.size }

abbrev pub with_frozen : ℕ → Put → Stored → Stored
with_frozen n put s = record s { frozen = option_map (with_put n put) s.frozen }

module _ {D : Type 0} (disk : D → Disk) where
  abbrev pub seen_of : DurableState D → Image
  seen_of s = seen_by (disk s.beneath).seen s.books

  abbrev pub stored_of : DurableState D → Stored
  stored_of s = stored_in (seen_by (disk s.beneath).seen s.books) s.books

  -- the saved state of a store
  abbrev pub saved_by : DurableState D → SavedState
  saved_by s = saved_state (seen_of s) s.books

  abbrev pub is_sound : DurableState D → Type 0
  is_sound s = IsSoundOn (disk s.beneath) s.books

-- the stored frames after a freeze: the working frames are the frozen ones
abbrev pub freezing_puts : ℕ → Stored → Stored
freezing_puts size s =
    let f : FrozenPuts = record { put = s.working; size = size } in
    record (on_snapshots (freezing f) s) { working = replicate (length s.working) Absent }

-- the header that commits the frozen frames at this age
abbrev pub next_header : ℕ → Books → CheckpointHeader
next_header age b = record {
  sequence = b.header.sequence + 1;
  generation = b.header.generation + 1;
  entries = taken_count b.frozen;
  age = age;
}

-- The saved frames are the same, and no sector that they need was written. If each crash of `old` leaves them, so does
-- each crash at any moment up to `new`.
pub record GoesOnDisk (old new : Disk) (b c : Books) : Type 0 where
  pub plan : c.plan ≡ b.plan
  pub size : new.sectors ≡ old.sectors
  pub sound : IsSoundOn old b → IsSoundOn new c
  pub any_moment : IsSoundOn old b → LeavesSaved old new (kept_of (saved_state (seen_by old.seen b) b))

abbrev pub GoesOn : {D : Type 0} → (D → Disk) → DurableState D → DurableState D → Type 0
GoesOn disk old new = GoesOnDisk (disk old.beneath) (disk new.beneath) old.books new.books

-- the saved frames are the same, and the store now has the frames s
pub record Stores (old new : Disk) (b c : Books) (s : Stored) : Type 0 where
  pub stands : IsDurable new c
  pub stored : stored_on new c ≡ s
  pub goes_on : GoesOnDisk old new b c

-- no stored frame has changed
abbrev pub Stays : Disk → Disk → Books → Books → Type 0
Stays old new b c = Stores old new b c (stored_on old b)

-- a frame f of object n may be written for the frozen checkpoint of `size` objects
pub record MayPut (disk : Disk) (b : Books) (size n : ℕ) (f : Frame) : Type 0 where
  pub stands : IsDurable disk b
  pub running : b.frozen_size ≡ Some size
  pub object : IsObject b.plan.geometry n
  pub keepable : IsKeepable b.plan.geometry most n f
  pub room : HasFreeSlot size (puts_in (seen_by disk.seen b) b.plan (frozen_generation b) b.frozen) n

-- a frame f was written: the store has `stored (Kept f)` or, if the device failed, `stored Broken`
pub record PutsFrame {T E : Type 0} (old new : Disk) (b c : Books) (f : Frame) (stored : Put → Stored)
    (result : Result T E) : Type 0 where
  pub stands : IsDurable new c
  pub put : OnOk result (stored_on new c ≡ stored (Kept f))
  pub broken : OnErr result (stored_on new c ≡ stored Broken)
  pub goes_on : GoesOnDisk old new b c
  pub cause : Counts old new result

-- a header was published: the store has the frames `next` or, if the device failed, the old ones
pub record Publishes {T E : Type 0} (old new : Disk) (b c : Books) (next : Stored) (result : Result T E) : Type 0 where
  pub stands : IsDurable new c
  pub stored : OnOk result (stored_on new c ≡ next)
  pub unchanged : OnErr result (stored_on new c ≡ stored_on old b)
  pub plan : c.plan ≡ b.plan
  pub sound : OnOk result (IsSoundOn new c)
  pub size : new.sectors ≡ old.sectors
  pub any_moment : LeavesEither old new (stored_on old b).saved next.saved
  pub cause : Counts old new result

-- the frozen frames were committed at an age; if the device failed, no stored frame changed
pub record Commits {T E : Type 0} (old new : Disk) (b c : Books) (age : ℕ) (result : Result T E) : Type 0 where
  pub stands : IsDurable new c
  pub stored : (f : FrozenPuts) → (stored_on old b).frozen ≡ Some f →
      OnOk result (stored_on new c ≡ on_snapshots (committed puts age f) (stored_on old b))
  pub generation : OnOk result (c.header.generation ≡ b.header.generation + 1)
  pub unchanged : OnErr result (stored_on new c ≡ stored_on old b)
  pub plan : c.plan ≡ b.plan
  pub sound : OnOk result (IsSoundOn new c)
  pub size : new.sectors ≡ old.sectors
  pub any_moment : LeavesOneOf old new (stored_on old b).saved
      (option_map (λ f. next_saved puts age f (stored_on old b).saved) (stored_on old b).frozen)
  pub cause : Counts old new result

-- `count` more entries' frames were copied home, and nothing else changed
pub record MovedBy (old new : Disk) (b c : Books) (count : ℕ) : Type 0 where
  pub books : c ≡ record b { moved = b.moved + count }
  pub stored : stored_on new c ≡ record (stored_on old b) { to_move = b.header.entries - (b.moved + count) }
  pub goes_on : GoesOnDisk old new b c

-- `count` saved objects were copied home, and the header has 0 entries once all are; if the device failed, fewer were
pub record Migrates {T E : Type 0} (old new : Disk) (b c : Books) (count : ℕ) (result : Result T E) : Type 0 where
  pub stands : IsDurable new c
  pub moved : OnOk result (stored_on new c ≡ on_snapshots (moved count) (stored_on old b))
  pub unmoved : OnErr result ((k : ℕ) × (k ≤ (stored_on old b).to_move)
      × (stored_on new c ≡ record (stored_on old b) { to_move = k }))
  pub plan : c.plan ≡ b.plan
  pub sound : OnOk result (IsSoundOn new c)
  pub size : new.sectors ≡ old.sectors
  pub any_moment : LeavesEither old new (stored_on old b).saved (moved_saved count (snapshots_in (stored_on old b)))
  pub cause : Counts old new result

-- `some` is the lesser of `count` and `left`
abbrev pub IsLesser : ℕ → ℕ → ℕ → Type 0
IsLesser some count left = (some ≤ count) × (some ≤ left) × ((some ≡ count) ⊎ (some ≡ left))

-- the header after all saved objects were copied home: with 0 entries
abbrev pub home_header : CheckpointHeader → CheckpointHeader
home_header h = record { sequence = h.sequence + 1; generation = h.generation; entries = 0; age = h.age }

-- the device was read, and nothing was written
pub record ReadsStore {D : Type 0} (disk : D → Disk) (old new : DurableState D) : Type 0 where
  pub books : new.books ≡ old.books
  pub stored : stored_of disk new ≡ stored_of disk old
  pub goes_on : GoesOn disk old new
  pub seen : Agrees (disk new.beneath).seen (disk old.beneath).seen
  pub crash : Narrows (disk old.beneath) (disk new.beneath)
  pub any_moment : Peeks (disk old.beneath) (disk new.beneath)

-- ---- one object is saved with a new frame, without a checkpoint

-- page n may be saved with new words at this age
pub record MayJournal (age n : ℕ) (s : SavedFrames) : Type 0 where
  pub page : (frame_at s.frames n).header.role ≡ role.Page
  pub later : s.age < age
  pub most : age ≤ 2 ^ 62

-- the header that saves one object with a new frame
abbrev pub replaced_header : ℕ → Books → CheckpointHeader
replaced_header age b =
    record { sequence = b.header.sequence + 1; generation = b.header.generation + 2; entries = 1; age = age }

-- the object's new frame, in slot 0 of the half that the saved generation used: its bytes, and the frame that they
-- decode to
abbrev pub first_bytes : Image → Books → ℕ → List ℕ
first_bytes image b n = slot_bytes image b.plan b.header.generation 0 n

abbrev pub first_frame : Image → Books → ℕ → Frame
first_frame image b n = slot_frame image b.plan b.header.generation 0 n
