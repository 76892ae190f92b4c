-- Where the bodies of objects are: in a cache entry, in the staging buffer, or on the device.
use Rattle.object_cache.specs.Names.{ℕ, Bool, true, false, Option, Some, None, List, is_some, length, map}
use Rattle.object_cache.specs.Names.{slice_index_or, range_with_len, Cap, Frame, ObjectHeader, Content, Role, header_at}
use Rattle.object_cache.specs.Names.{Put, Absent, Broken, Kept, put_at, Stored, below_at, Entry, entry_at, content_of}
use Rattle.object_cache.specs.Names.{Body, Scratch, content_behind, ContentRef}
use Rattle.std.specs.Prelude.{◌==◌, if◌then◌else◌}
use Rattle.model.specs.declared.object.Content.TheVariants as content
use Rattle.model.specs.declared.object.Role.TheVariants as role
pub use Rattle.object_cache.specs.declared.frozen.FrozenState.{FrozenState}
pub use Rattle.object_cache.specs.declared.frozen.FrozenState.TheVariants.{Nothing, Shared, Apart}

-- a frozen body without an entry, read from the device so that its frame can be written with its newer, frozen header
pub record Held : Type 0 where
  pub number : ℕ
  pub content : Content Cap

-- the body in the staging buffer: from words and slots in a scratch buffer, or from a reference
abbrev pub held_in : Scratch → ℕ × Body → Held
held_in scratch held = record { number = held.0; content = content_of held.1 scratch.slots scratch.words }

abbrev pub held_behind : ℕ × ContentRef → Held
held_behind held = record { number = held.0; content = content_behind held.1 }

-- The memory of a store, besides its durable store: the present and the frozen headers; the touched numbers; the dirty
-- ones, whose present frame isn't in the log; the pending ones, whose frozen frame isn't in the log; the cache
-- entries; and the staging buffer.
pub record Memory : Type 0 where
  pub headers : List ObjectHeader
  pub frozen_headers : List ObjectHeader
  pub touched : List Bool
  pub dirty : List Bool
  pub pending : List Bool
  pub entries : List (Option Entry)
  pub staging : Option Held

abbrev pub memory_of : List ObjectHeader → List ObjectHeader → List Bool → List Bool → List Bool → List (Option Entry) →
    Option Held → Memory
memory_of headers frozen_headers touched dirty pending entries staging = record {
  headers = headers;
  frozen_headers = frozen_headers;
  touched = touched;
  dirty = dirty;
  pending = pending;
  entries = entries;
  staging = staging;
}

abbrev pub mark_at : List Bool → ℕ → Bool
mark_at marks n = slice_index_or marks n false

-- a content, or `Free` if the role is free
abbrev pub masked : Role → Content Cap → Content Cap
masked role.Free c = content.Free
masked _ c = c

-- the body in the staging buffer if it is number n's, else c
abbrev pub in_staging : Option Held → ℕ → Content Cap → Content Cap
in_staging None n c = c
in_staging (Some h) n c = if h.number == n then h.content else c

-- the staging buffer, after the body of number n, if it has that, was dropped
abbrev pub released : ℕ → Option Held → Option Held
released n None = None
released n (Some h) = if h.number == n then None else Some h

-- the body that was written, or c if none was
abbrev pub put_body : Put → Content Cap → Content Cap
put_body Absent c = c
put_body Broken c = c
put_body (Kept f) c = f.content

-- the body of n below the entries: in the staging buffer, else the frozen frame's, else the saved frame's
abbrev pub below_body : Stored → Memory → ℕ → Content Cap
below_body s m n = in_staging m.staging n (below_at s n).content

-- the newest body of n outside the entries: the working frame's, else the one below
abbrev pub newest_body : Stored → Memory → ℕ → Content Cap
newest_body s m n = put_body (put_at s.working n) (below_body s m n)

-- an object's present body: the one in its cache entry, else the newest elsewhere; `Free` if its role is free
abbrev pub present_body : Option Entry → Role → Content Cap → Content Cap
present_body None r newest = masked r newest
present_body (Some e) r newest = e.present

abbrev pub content_at : Stored → Memory → ℕ → Content Cap
content_at s m n = present_body (entry_at m.entries n) (header_at m.headers n).role (newest_body s m n)

abbrev pub present_at : Stored → Memory → ℕ → Frame
present_at s m n = record { header = header_at m.headers n; content = content_at s m n }

-- The frozen body of an object with a cache entry: its frozen copy; or the body below, if the object was written since
-- the freeze; or else the present body.
abbrev pub apart_body : Option (Content Cap) → Bool → Content Cap → Content Cap → Content Cap
apart_body (Some c) touched present below = c
apart_body None true present below = below
apart_body None false present below = present

abbrev pub frozen_body : Option Entry → Bool → Content Cap → Content Cap
frozen_body None touched below = below
frozen_body (Some e) touched below = apart_body e.kept touched e.present below

-- the frozen body that an entry has: its frozen copy or, if it has none, its present body
abbrev pub own_body : Option (Content Cap) → Content Cap → Content Cap
own_body (Some c) present = c
own_body None present = present

abbrev pub own_body_of : Entry → Content Cap
own_body_of e = own_body e.kept e.present

-- the frame of an entry's frozen body, with the frozen header h
abbrev pub own_frame : ObjectHeader → Entry → Frame
own_frame h e = record { header = h; content = masked h.role (own_body_of e) }

-- the frozen frame of an object: its frozen header and body if it is pending, else the frame below
abbrev pub frozen_frame : Bool → ObjectHeader → Content Cap → Frame → Frame
frozen_frame false h body below = below
frozen_frame true h body below = record { header = h; content = masked h.role body }

abbrev pub frozen_at : Stored → Memory → ℕ → Frame
frozen_at s m n = frozen_frame (mark_at m.pending n) (header_at m.frozen_headers n)
    (frozen_body (entry_at m.entries n) (mark_at m.touched n) (below_body s m n)) (below_at s n)

-- the present contents of all objects; their frozen frames
unfoldable pub contents_in : Stored → Memory → List (Content Cap)
contents_in s m = map (content_at s m) (range_with_len 0 (length m.headers))

unfoldable pub frozen_in : Stored → Memory → List Frame
frozen_in s m = map (frozen_at s m) (range_with_len 0 (length m.headers))

-- Which body an entry has for a pending frozen frame, from whether it has a frozen copy, and whether the object was
-- written since the freeze. If the frame isn't pending, or there is no entry: `Nothing`.
abbrev pub frozen_state_body : Bool → Bool → FrozenState
frozen_state_body true touched = Apart
frozen_state_body false true = Nothing
frozen_state_body false false = Shared

abbrev pub frozen_state_by : Bool → Bool → Bool → FrozenState
frozen_state_by false kept touched = Nothing
frozen_state_by true kept touched = frozen_state_body kept touched

abbrev pub frozen_state_of : Option Entry → Bool → Bool → FrozenState
frozen_state_of None pending touched = Nothing
frozen_state_of (Some e) pending touched = frozen_state_by pending (is_some e.kept) touched

abbrev pub frozen_state_in_memory : Memory → ℕ → FrozenState
frozen_state_in_memory m n = frozen_state_of (entry_at m.entries n) (mark_at m.pending n) (mark_at m.touched n)

unfoldable pub frozen_states_in : Memory → List FrozenState
frozen_states_in m = map (frozen_state_in_memory m) (range_with_len 0 (length m.headers))
