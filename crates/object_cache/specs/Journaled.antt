-- The present body of a page to be journaled, and when and how it is saved.
use Rattle.object_cache.specs.Names.{ℕ, Bool, Option, Some, None, List, Cap, Content, ObjectHeader, Stored, newest}
use Rattle.object_cache.specs.Names.{Entry, entry_at, frame_at, is_same_page, Disk, DurableState, stored_of, is_sound}
use Rattle.object_cache.specs.Names.{Result, IfOk, OnOk, OnErr, Counts, LeavesEither, journaled_saved, journaled}
use Rattle.object_cache.specs.Names.{on_snapshots, IsErrOf, option_map, words_in, Refusal, is_page_role, next_journaled}
use Rattle.object_cache.specs.Names.{IsJournalAnswer, IsTurnedAway, LeavesOneOf, left_of}
use Rattle.std.specs.Prelude.{◌≡◌, ◌⊎◌, ◌+◌, ◌<◌, ◌≤◌, ◌^◌}
use Rattle.model.specs.declared.answer.Refusal.TheVariants as refusal
use Rattle.model.specs.declared.object.Role.TheVariants as role

-- the present body of an object: the one in its entry or, if it has none, the newest on the device
abbrev pub entry_body : Option Entry → Content Cap → Content Cap
entry_body None newest = newest
entry_body (Some e) newest = e.present

-- whether the saved object n is a page with the allocation count in h, the present header
abbrev pub is_saved_page : Stored → ObjectHeader → ℕ → Bool
is_saved_page s h n = is_same_page h.allocations (frame_at s.saved.frames n)

abbrev pub held_now : List (Option Entry) → Stored → ℕ → Content Cap
held_now es s n = entry_body (entry_at es n) (newest s n).content

-- page n may be saved with new words at this age, under this header: no checkpoint is frozen, and all saved objects
-- are home
pub record MaySave {D : Type 0} (disk : D → Disk) (s : DurableState D) (header : ObjectHeader) (n age : ℕ) :
    Type 0 where
  pub free : (stored_of disk s).frozen ≡ None
  pub home : (stored_of disk s).saved.entries ≡ 0
  pub page : (frame_at (stored_of disk s).saved.frames n).header.role ≡ role.Page
  pub saved : header ≡ (frame_at (stored_of disk s).saved.frames n).header
  pub sound : is_sound disk s
  pub later : (stored_of disk s).saved.age < age
  pub most : age ≤ 2 ^ 62

-- page n was saved with these words or, if the call failed, nothing was saved
pub record SavesPage {D E : Type 0} (disk : D → Disk) (s t : DurableState D) (n age : ℕ) (words : List ℕ)
    (result : Result ℕ E) : Type 0 where
  pub stored : OnOk result (stored_of disk t ≡ on_snapshots (journaled age n words) (stored_of disk s))
  pub unchanged : OnErr result (stored_of disk t ≡ stored_of disk s)
  pub plan : t.books.plan ≡ s.books.plan
  pub generation : IfOk result (λ g. g ≡ (stored_of disk s).saved.generation + 2)
  pub sound : OnOk result (is_sound disk t)
  pub size : (disk t.beneath).sectors ≡ (disk s.beneath).sectors
  pub any_moment : LeavesEither (disk s.beneath) (disk t.beneath) (stored_of disk s).saved
      (journaled_saved age n words (stored_of disk s).saved)
  pub cause : Counts (disk s.beneath) (disk t.beneath) result

-- a page was journaled, or the journal was refused; `h` is the page's present header
pub record JournalsPage {D : Type 0} (disk : D → Disk) (s t : DurableState D) (es : List (Option Entry))
    (h : ObjectHeader) (is_known : Bool) (n age : ℕ) (result : Result ℕ Refusal) : Type 0 where
  pub journaled : OnOk result (stored_of disk t
      ≡ on_snapshots (journaled age n (words_in (held_now es (stored_of disk s) n))) (stored_of disk s))
  pub unchanged : OnErr result (stored_of disk t ≡ stored_of disk s)
  pub turned_away : IsTurnedAway result → t ≡ s
  pub plan : t.books.plan ≡ s.books.plan
  pub answer : IsJournalAnswer (disk s.beneath) (disk t.beneath) (option_map left_of (stored_of disk s).frozen)
      (stored_of disk s).saved is_known (is_page_role h.role) (is_saved_page (stored_of disk s) h n) result
  pub sound : IsErrOf result refusal.Fault ⊎ is_sound disk t
  pub size : (disk t.beneath).sectors ≡ (disk s.beneath).sectors
  pub any_moment : LeavesOneOf (disk s.beneath) (disk t.beneath) (stored_of disk s).saved
      (next_journaled age n (words_in (held_now es (stored_of disk s) n)) (stored_of disk s).frozen
      (stored_of disk s).saved (is_page_role h.role) (is_saved_page (stored_of disk s) h n))
