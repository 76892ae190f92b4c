-- The state of a store of objects, and its invariant.
use Rattle.object_cache.specs.Names.{ℕ, Bool, true, false, Option, Some, None, IsSome, is_some, option_map, count_by}
use Rattle.object_cache.specs.Names.{List, length, map, replicate, slice_index_or, slice_set, range_with_len, Cap}
use Rattle.object_cache.specs.Names.{ObjectHeader, Content, Frame, frame_at, header_at, headers, AreKeepable}
use Rattle.object_cache.specs.Names.{touched_count, untouched, is_member, object_count, Disk, Peeks, Put, Absent}
use Rattle.object_cache.specs.Names.{Broken, Kept, put_at, most, DurableState, FrozenPuts, Stored, GoesOn, stored_of}
use Rattle.object_cache.specs.Names.{is_sound, Parts, HaveTheirRoles, Snapshots, FrozenFrames, View, stabilized, Entry}
use Rattle.object_cache.specs.Names.{EntriesState, entry_at, new_entry, AllDiffer, changing, with_entry_of, without}
use Rattle.object_cache.specs.Names.{nat_le, IsKeepable, HasFreeSlot, held_at, frames_of, Result, Counts}
use Rattle.std.specs.Prelude.{◌≡◌, ◌⊎◌, ◌<◌, ◌∷◌, ◌||◌, ◌≤◌, if◌then◌else◌}
use Rattle.model.specs.declared.object.Role.TheVariants as role
use Rattle.object_cache.specs.Memory.{Held, Memory, FrozenState, Nothing, frozen_state_by, mark_at, present_at}
use Rattle.object_cache.specs.Memory.{frozen_at, contents_in, frozen_in, frozen_states_in}

-- ---- the state of a store

-- which numbers have a cache entry
unfoldable pub cached_in : List (Option Entry) → List Bool
cached_in es = map is_some es

pub record StoreState (D : Type 0) : Type 0 where
  pub durable : DurableState D
  pub headers : List ObjectHeader
  pub contents : List (Content Cap)
  pub touched : List Bool
  pub dirty : List Bool
  pub pending : List Bool
  pub cached : List Bool
  pub frozen_state : List FrozenState
  pub frozen : Option FrozenFrames
  pub staging : Option Held
  pub order : List ℕ
  pub capacity : ℕ

-- the frozen state as `ObjectStore` shows it; `left` counts the objects that `stabilize` has yet to reach
abbrev pub frozen_seen : Stored → Memory → ℕ → Option FrozenFrames
frozen_seen s m left = option_map (λ (f : FrozenPuts). record { frames = frozen_in s m; size = f.size; left = left })
    s.frozen

module _ {D : Type 0} (disk : D → Disk) where
  abbrev pub cache_of : DurableState D → Memory → ℕ → List ℕ → ℕ → StoreState D
  cache_of d m left order capacity = record {
    durable = d;
    headers = m.headers;
    contents = contents_in (stored_of disk d) m;
    touched = m.touched;
    dirty = m.dirty;
    pending = m.pending;
    cached = cached_in m.entries;
    frozen_state = frozen_states_in m;
    frozen = frozen_seen (stored_of disk d) m left;
    staging = m.staging;
    order = order;
    capacity = capacity;
  }

  -- the parts of a store: its present objects, and how often the device failed
  abbrev pub parts_of : StoreState D → Parts
  parts_of s = record {
    geometry = (stored_of disk s.durable).saved.geometry;
    headers = s.headers;
    contents = s.contents;
    touched = s.touched;
    failures = (disk s.durable.beneath).failures;
  }

  abbrev pub snapshots_of : StoreState D → Snapshots FrozenFrames
  snapshots_of s = record {
    frozen = s.frozen;
    saved = (stored_of disk s.durable).saved;
    to_move = (stored_of disk s.durable).to_move;
  }

  -- a store can be used as long as each crash leaves what is saved
  abbrev pub IsUsableIn : StoreState D → Type 0
  IsUsableIn s = is_sound disk s.durable

  abbrev pub view_of : StoreState D → View D
  view_of s = record { beneath = s.durable.beneath; snapshots = snapshots_of s; usable = IsUsableIn s }

  -- Only present objects changed: the saved and frozen frames are the same, and the device was only read if nothing is
  -- touched or frozen.
  pub record GoesOnIn (s t : StoreState D) : Type 0 where
    pub goes_on : GoesOn disk s.durable t.durable
    pub snapshots : snapshots_of t ≡ snapshots_of s
    pub later : (disk s.durable.beneath).failures ≤ (disk t.durable.beneath).failures
    pub grows : touched_count s.touched ≤ touched_count t.touched
    pub capacity : t.capacity ≡ s.capacity
    pub only_reads : touched_count t.touched ≡ 0 → s.frozen ≡ None →
        Peeks (disk s.durable.beneath) (disk t.durable.beneath)

abbrev pub cached_at : List Bool → ℕ → Bool
cached_at cached n = slice_index_or cached n false

-- there are at most as many entries as the capacity, and the order of use contains each number with an entry once
pub record IsBounded {D : Type 0} (s : StoreState D) : Type 0 where
  pub listed : (n : ℕ) → is_member s.order n ≡ cached_at s.cached n
  pub once : AllDiffer s.order
  pub few : length s.order ≤ s.capacity

abbrev pub frozen_state_at : List FrozenState → ℕ → FrozenState
frozen_state_at frozen_state n = slice_index_or frozen_state n Nothing

-- how many frozen frames aren't in the log
abbrev pub pending_count : {D : Type 0} → StoreState D → ℕ
pending_count s = count_by (λ b. b) s.pending

-- the store with a new entry for number n, the one used last
abbrev pub with_cached : {D : Type 0} → ℕ → StoreState D → StoreState D
with_cached n s = record s {
  cached = slice_set s.cached n true;
  frozen_state = slice_set s.frozen_state n (frozen_state_by (mark_at s.pending n) false (mark_at s.touched n));
  order = n ∷ s.order;
}

-- `s` with the device, the staging buffer, and the dirty, pending and frozen states of `t`
abbrev pub on_device : {D : Type 0} → StoreState D → StoreState D → StoreState D
on_device s t = record
    s { durable = t.durable; dirty = t.dirty; pending = t.pending; frozen_state = t.frozen_state; staging = t.staging }

-- as `on_device`, and with the frozen checkpoint of `t`
abbrev pub on_device_frozen : {D : Type 0} → StoreState D → StoreState D → StoreState D
on_device_frozen s t = record (on_device s t) { frozen = t.frozen }

-- as `on_device`, and with the entries of `t` and their order
abbrev pub on_device_with : {D : Type 0} → StoreState D → StoreState D → StoreState D
on_device_with s t = record (on_device s t) { cached = t.cached; order = t.order }

-- `s` after numbers were announced: with the marks of `t`
abbrev pub readied : {D : Type 0} → StoreState D → StoreState D → StoreState D
readied s t = record s { touched = t.touched; dirty = t.dirty; frozen_state = t.frozen_state }

-- Frames were written, or bodies read. Only what `like` takes from the new state t changed. The call fails exactly if
-- the device fails.
pub record Moves {D T E : Type 0} (disk : D → Disk) (like : StoreState D → StoreState D → StoreState D) (s t : StoreState D)
    (result : Result T E) : Type 0 where
  pub rest : t ≡ like s t
  pub continues : GoesOnIn disk s t
  pub cause : Counts (disk s.durable.beneath) (disk t.durable.beneath) result

-- `k` more of the frozen objects were written in turn, so `left` is lower by `k`
pub record PutsBy {D : Type 0} (disk : D → Disk) (s t : StoreState D) (k : ℕ) : Type 0 where
  pub snapshots : (f : FrozenFrames) → s.frozen ≡ Some f → snapshots_of disk t ≡ stabilized k f (snapshots_of disk s)
  pub rest : t ≡ on_device_frozen s t
  pub goes_on : GoesOn disk s.durable t.durable

-- the present frame of object n may be kept; those of all objects may
abbrev pub IsKeepableIn : {D : Type 0} → (D → Disk) → StoreState D → ℕ → Type 0
IsKeepableIn disk s n = IsKeepable (stored_of disk s.durable).saved.geometry most n
    (record { header = header_at s.headers n; content = held_at s.contents n })

abbrev pub AreKeepableIn : {D : Type 0} → (D → Disk) → StoreState D → Type 0
AreKeepableIn disk s = AreKeepable (parts_of disk s).geometry most (frames_of (parts_of disk s))

-- at most as many numbers are touched as a log half has slots
abbrev pub IsWithinLog : {D : Type 0} → (D → Disk) → StoreState D → Type 0
IsWithinLog disk s = touched_count s.touched ≤ (stored_of disk s.durable).saved.geometry.log

-- this frozen frame of object n may be written to the log
pub record MayPutFrozen {D : Type 0} (disk : D → Disk) (d : DurableState D) (n : ℕ) (f : Frame) : Type 0 where
  pub running : (puts : FrozenPuts) × ((stored_of disk d).frozen ≡ Some puts)
  pub object : n < object_count d.books.plan.geometry
  pub keepable : IsKeepable d.books.plan.geometry most n f
  pub room : (puts : FrozenPuts) → (stored_of disk d).frozen ≡ Some puts → HasFreeSlot puts.size puts.put n

-- the store without the entry of number n
abbrev pub without_cached : {D : Type 0} → ℕ → StoreState D → StoreState D
without_cached n s = record s { cached = slice_set s.cached n false; order = without n s.order }

-- an object is fetched if it has an entry
pub record IsFetchedIn {D : Type 0} (s : StoreState D) (n : ℕ) : Type 0 where
  pub header : n < length s.headers
  pub content : n < length s.contents
  pub cached : cached_at s.cached n ≡ true

-- an object is announced if it is dirty
pub record IsAnnouncedIn {D : Type 0} (s : StoreState D) (n : ℕ) : Type 0 where
  pub header : n < length s.headers
  pub content : n < length s.contents
  pub dirty : mark_at s.dirty n ≡ true

-- Only present objects changed. If the store keeps all bodies in memory, it made no call on the device.
pub record ContinuesIn {D : Type 0} (all : Bool) (disk : D → Disk) (s t : StoreState D) : Type 0 where
  pub goes_on : GoesOnIn disk s t
  pub still : all ≡ true → t.durable ≡ s.durable

abbrev pub with_content_in : {D : Type 0} → StoreState D → ℕ → Content Cap → StoreState D
with_content_in s n c = record s { contents = slice_set s.contents n c }

-- ---- opening

-- the contents of frames
abbrev pub bodies_of : List Frame → List (Content Cap)
bodies_of fs = map (λ (f : Frame). f.content) fs

-- a durable store was just opened; its saved frames have these headers
pub record IsJustOpened (s : Stored) (hs : List ObjectHeader) : Type 0 where
  pub headers_are : hs ≡ headers s.saved.frames
  pub roles : HaveTheirRoles s.saved.frames
  pub frames : length s.saved.frames ≡ object_count s.saved.geometry
  pub working : s.working ≡ replicate (length s.saved.frames) Absent
  pub idle : s.frozen ≡ None

-- each entry has the body of its object's frame, and no frozen copy
pub record HoldBodies (e : EntriesState) (fs : List Frame) : Type 0 where
  pub each : length e.at ≡ length fs
  pub bodies : (n : ℕ) (x : Entry) → entry_at e.at n ≡ Some x → x ≡ new_entry (frame_at fs n).content

-- each number has an entry
abbrev pub AreAll : EntriesState → Type 0
AreAll e = (n : ℕ) → n < length e.at → IsSome (entry_at e.at n)

-- the capacity for `count` objects: at least 8
abbrev pub all_of : ℕ → ℕ
all_of count = if nat_le 8 count then count else 8

-- the entries with this present body for number n
abbrev pub with_body : ℕ → Content Cap → EntriesState → EntriesState
with_body n c e = with_entry_of (changing (λ (x : Content Cap). c)) n e

-- the saved objects read so far: their headers and, if all bodies stay in memory, entries with the bodies
pub record TakenState : Type 0 where
  pub headers : List ObjectHeader
  pub entries : Option EntriesState
  pub count : ℕ

-- a cache entry without a frozen copy
abbrev pub IsUnkept : Option Entry → Type 0
IsUnkept o = (c : Content Cap) × (o ≡ Some (new_entry c))

-- there are `count` entries, and those from `taken` on have no frozen copy
pub record HaveRoom (e : EntriesState) (taken count : ℕ) : Type 0 where
  pub each : length e.at ≡ count
  pub most : e.most ≡ all_of count
  pub later : (n : ℕ) → taken ≤ n → n < count → IsUnkept (entry_at e.at n)

-- among `count` numbers exactly those below k have an entry; no entry has a frozen copy
pub record AreInserted (e : EntriesState) (k count : ℕ) : Type 0 where
  pub each : length e.at ≡ count
  pub used : length e.order ≡ k
  pub most : e.most ≡ all_of count
  pub whole : count ≤ e.most
  pub earlier : (n : ℕ) → n < k → IsUnkept (entry_at e.at n)
  pub later : (n : ℕ) → k ≤ n → entry_at e.at n ≡ None

-- exactly these frames were taken
pub record AreTaken (s : TakenState) (fs : List Frame) : Type 0 where
  pub headers_are : s.headers ≡ headers fs
  pub bodies : (e : EntriesState) → s.entries ≡ Some e → (n : ℕ) → n < length fs →
      entry_at e.at n ≡ Some (new_entry (frame_at fs n).content)

-- the capacity of a store follows from its setting and a number of objects
abbrev pub HasCapacity : {D : Type 0} → (ℕ → ℕ) → StoreState D → Type 0
HasCapacity most_for s = (count : ℕ) × (s.capacity ≡ most_for count)

-- a store over a durable store that was just opened: its objects are the saved ones
pub record IsOpenOver {D : Type 0} (disk : D → Disk) (d : DurableState D) (most : ℕ) (s : StoreState D) : Type 0 where
  pub durable : s.durable ≡ d
  pub headers_are : s.headers ≡ headers (stored_of disk d).saved.frames
  pub contents : s.contents ≡ bodies_of (stored_of disk d).saved.frames
  pub touched : s.touched ≡ untouched (stored_of disk d).saved.geometry
  pub idle : s.frozen ≡ None
  pub same_most : s.capacity ≡ most

-- ---- the invariant

abbrev pub is_kept : Put → Bool
is_kept Absent = false
is_kept Broken = false
is_kept (Kept f) = true

-- The frozen frames of a checkpoint: it has `size` objects that are pending or written; each object with a torn slot
-- is pending; at most `left` are pending.
pub record AreFrozen (f : FrozenPuts) (pending : List Bool) (left : ℕ) : Type 0 where
  pub each : length f.put ≡ length pending
  pub size : count_by (λ b. b)
      (map (λ n. mark_at pending n || is_kept (put_at f.put n)) (range_with_len 0 (length pending))) ≡ f.size
  pub torn : (n : ℕ) → put_at f.put n ≡ Broken → mark_at pending n ≡ true
  pub few : count_by (λ b. b) pending ≤ left
  pub within : left ≤ f.size

pub record IsCache (all : Bool) (s : Stored) (m : Memory) (left count : ℕ) : Type 0 where
  pub headers : length m.headers ≡ object_count s.saved.geometry
  pub frozen_headers : length m.frozen_headers ≡ object_count s.saved.geometry
  pub marks : length m.touched ≡ object_count s.saved.geometry
  pub dirty_marks : length m.dirty ≡ object_count s.saved.geometry
  pub pending_marks : length m.pending ≡ object_count s.saved.geometry
  pub entries : length m.entries ≡ object_count s.saved.geometry
  pub frames : length s.saved.frames ≡ object_count s.saved.geometry
  pub puts : length s.working ≡ object_count s.saved.geometry
  -- if all bodies stay in memory, each object has an entry
  pub whole : all ≡ true → (n : ℕ) → n < length m.headers → IsSome (entry_at m.entries n)
  pub counted : count ≡ touched_count m.touched
  pub within : count ≤ s.saved.geometry.log
  -- dirty numbers are touched; each other touched number has its present frame in its working slot
  pub marked : (n : ℕ) → mark_at m.dirty n ≡ true → mark_at m.touched n ≡ true
  pub clean : (n : ℕ) → mark_at m.dirty n ≡ false → mark_at m.touched n ≡ true →
      put_at s.working n ≡ Kept (present_at s m n)
  -- an untouched object has no working frame, and its present frame is its frozen or saved one
  pub unput : (n : ℕ) → mark_at m.touched n ≡ false → put_at s.working n ≡ Absent
  pub unwritten : (n : ℕ) → n < length m.headers → mark_at m.touched n ≡ false → present_at s m n ≡ frozen_at s m n
  -- frozen frames and the staging buffer
  pub idle : s.frozen ≡ None → (n : ℕ) → mark_at m.pending n ≡ false
  pub running : (f : FrozenPuts) → s.frozen ≡ Some f → AreFrozen f m.pending left
  pub keepable : (f : FrozenPuts) → s.frozen ≡ Some f → AreKeepable s.saved.geometry most (frozen_in s m)
  pub held : (h : Held) → m.staging ≡ Some h → mark_at m.pending h.number ≡ true
  pub apart : (n : ℕ) (e : Entry) → entry_at m.entries n ≡ Some e → (e.kept ≡ None) ⊎ (mark_at m.pending n ≡ true)
  -- if a pending object was frozen as free and has no entry, it is free now or has a working frame: no body is lost
  pub freed : (n : ℕ) → entry_at m.entries n ≡ None → mark_at m.pending n ≡ true →
      (header_at m.frozen_headers n).role ≡ role.Free →
      (is_kept (put_at s.working n) ≡ true) ⊎ ((header_at m.headers n).role ≡ role.Free)
