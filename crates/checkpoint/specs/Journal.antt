-- When a page of an object store may be journaled, and what is saved then.
use Rattle.checkpoint.specs.Names.{ℕ, Bool, true, false, Option, Some, None, List, Frame, Role, frame_at, header_at}
use Rattle.checkpoint.specs.Names.{held_at, words_in, Parts}
use Rattle.std.specs.Prelude.{◌==◌, if◌then◌else◌, ◌&&◌}
use Rattle.model.specs.declared.object.Role.TheVariants as role
use Rattle.checkpoint.specs.Saved.{SavedFrames, journaled_saved}

abbrev pub is_page_role : Role → Bool
is_page_role role.Page = true
is_page_role _ = false

-- whether object n is a page now; its present words
abbrev pub is_page_now : Parts → ℕ → Bool
is_page_now p n = is_page_role (header_at p.headers n).role

abbrev pub words_now : Parts → ℕ → List ℕ
words_now p n = words_in (held_at p.contents n)

-- whether this is the frame of a page with this allocation count
abbrev pub is_same_page : ℕ → Frame → Bool
is_same_page allocations f = is_page_role f.header.role && (allocations == f.header.allocations)

-- whether the saved object n is a page that wasn't rescinded since: its allocation count is the present one
abbrev pub is_still_saved : Parts → SavedFrames → ℕ → Bool
is_still_saved p s n = is_same_page (header_at p.headers n).allocations (frame_at s.frames n)

-- what is saved once page n is journaled; `None` if that is refused
abbrev pub saved_next : ℕ → ℕ → List ℕ → SavedFrames → (is_page is_saved : Bool) → Option SavedFrames
saved_next age n words s is_page is_saved = if s.entries == 0 then
    (if is_page then (if is_saved then Some (journaled_saved age n words s) else None) else None) else None

abbrev pub next_journaled : {F : Type 0} → ℕ → ℕ → List ℕ → Option F → SavedFrames → (is_page is_saved : Bool) →
    Option SavedFrames
next_journaled age n words None s is_page is_saved = saved_next age n words s is_page is_saved
next_journaled age n words (Some f) s is_page is_saved = None
