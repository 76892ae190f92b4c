-- Frames: objects with their headers, which have counts.
use Rattle.std.specs.Prelude.{ℕ, ◌+◌, nat_lt, if◌then◌else◌, List, [], ◌∷◌, map, slice_index_or, None, Some}
use Rattle.model.specs.declared.capability.Cap.{Cap}
use Rattle.model.specs.declared.capability.Capability.{Capability}
use Rattle.model.specs.declared.capability.Capability.TheVariants.{Void, Resume}
use Rattle.model.specs.declared.frame.Frame.{Frame}
use Rattle.model.specs.declared.frame.ObjectHeader.{ObjectHeader}
use Rattle.model.specs.declared.object.Content.{Content}
use Rattle.model.specs.declared.object.Content.TheVariants as content
use Rattle.model.specs.declared.object.ContentRef.{ContentRef}
use Rattle.model.specs.declared.object.ContentRef.TheVariants as content_ref
use Rattle.model.specs.declared.object.Object.{Object}
use Rattle.model.specs.declared.object.Role.{Role}
use Rattle.model.specs.declared.object.Role.TheVariants as role
use Rattle.model.specs.Capability.{named}
use Rattle.model.specs.Object.{map_content}

-- the header of a number that was never used, and its frame
abbrev pub blank_header : ObjectHeader
blank_header = record { role = role.Free; allocations = 0; calls = 0; owner = 0 }

abbrev pub blank_frame : Frame
blank_frame = record { header = blank_header; content = content.Free }

abbrev pub frame_at : List Frame → ℕ → Frame
frame_at fs n = slice_index_or fs n blank_frame

-- the headers of frames
abbrev pub headers : List Frame → List ObjectHeader
headers fs = map (λ f. f.header) fs

abbrev pub header_at : List ObjectHeader → ℕ → ObjectHeader
header_at hs n = slice_index_or hs n blank_header

-- The frames with these headers and contents, number by number. A number without a content is free.
unfoldable pub frames_in : List ObjectHeader → List (Content Cap) → List Frame
frames_in [] cs = []
frames_in (h ∷ hs) [] = record { header = h; content = content.Free } ∷ frames_in hs []
frames_in (h ∷ hs) (c ∷ cs) = record { header = h; content = c } ∷ frames_in hs cs

abbrev pub held_at : List (Content Cap) → ℕ → Content Cap
held_at cs n = slice_index_or cs n content.Free

-- a held void capability
abbrev pub void_held : Cap
void_held = record { what = Void; count = 0 }

-- the count with which a capability's is compared: its object's call count for a resume capability, else the
-- allocation count
abbrev pub current_count : List ObjectHeader → Capability → ℕ
current_count hs (Resume p) = (header_at hs p).calls
current_count hs c = elim (named c) [ None ↦ 0 | Some n ↦ (header_at hs n).allocations ]

-- the capability that a held one conveys: void if its object's count has risen since (EROS: a stale capability)
abbrev pub conveyed : List ObjectHeader → Cap → Capability
conveyed hs c = if nat_lt c.count (current_count hs c.what) then Void else c.what

-- the object of a frame: its owner and content, where stale capabilities are void
abbrev pub object_of : List ObjectHeader → Frame → Object
object_of hs f = record { owner = f.header.owner; content = map_content (conveyed hs) f.content }

-- the objects of all frames
unfoldable pub objects_of : List Frame → List Object
objects_of fs = map (object_of (headers fs)) fs

-- Headers change in four ways. First: an object is rescinded, so it is free, and both counts are one higher.
abbrev pub given_up : ObjectHeader → ObjectHeader
given_up h = record { role = role.Free; allocations = h.allocations + 1; calls = h.calls + 1; owner = 0 }

-- second: the object gets a new owner
abbrev pub owned_by : ℕ → ObjectHeader → ObjectHeader
owned_by bank h = record h { owner = bank }

-- third: the right to resume the process is used
abbrev pub called : ObjectHeader → ObjectHeader
called h = record h { calls = h.calls + 1 }

-- fourth: a free number becomes an object; its counts stay
abbrev pub claimed : Role → ℕ → ObjectHeader → ObjectHeader
claimed r owner h = record h { role = r; owner = owner }

-- the content that a reference refers to
abbrev pub content_behind : ContentRef → Content Cap
content_behind content_ref.Free = content.Free
content_behind (content_ref.Page words) = content.Page words.now
content_behind (content_ref.Node slots) = content.Node slots.now
content_behind (content_ref.Root root) = content.Root root.now
content_behind (content_ref.Annex registers) = content.Annex registers.now
content_behind (content_ref.Bank limit) = content.Bank limit
