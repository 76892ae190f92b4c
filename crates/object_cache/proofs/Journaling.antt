-- A page is journaled: no present object changes, and the saved page gets the present words.
use Rattle.object_cache.proofs.Names.{inl, inr, ℕ, Bool, true, false, List, length, set, length-set, Option, Some, None, option_map, Result, Ok, Err, refl, sym}
use Rattle.object_cache.proofs.Names.{ap, subst, arith, cases_eq, get_or-set_same, get_or-set_other, none-some, Cap, Frame, ObjectHeader, Content, blank_frame}
use Rattle.object_cache.proofs.Names.{frame_at, frames_in, header_at, held_at, AreKeepable, is_page, words_in, object_count, Disk, leaves_on, leaves_weaker}
use Rattle.object_cache.proofs.Names.{Body, Scratch, content_of, frame_of, Put, Absent, Broken, Kept, put_at, put_or, most, SavedFrames, LeavesEither}
use Rattle.object_cache.proofs.Names.{LeavesOneOf, journaled_saved, with_words, Snapshots, journaled, on_snapshots, DurableState, FrozenPuts, Stored, below_at}
use Rattle.object_cache.proofs.Names.{ReadsStore, frozen_put, is_sound, left_of, stored_of, maps_same, frame_in, is_page_role, next_journaled, FrozenFrames}
use Rattle.object_cache.proofs.Names.{page_is, role_is_page, content_is_page, known_page, next_same, Entry, entry_at, entry_body, held_now, Memory, mark_at}
use Rattle.object_cache.proofs.Names.{masked, put_body, present_body, content_at, present_at, frozen_at, contents_in, frozen_in, StoreState, IsCache}
use Rattle.object_cache.proofs.Names.{snapshots_of, cache_of, frozen_seen, nat_lt, Refusal, IsJournalAnswer, is_some, present_of, same_Some, newest, OnErr}
use Rattle.std.proofs.Common.{◌≡◌, ◌≢◌, ◌<◌, ◌∙◌, OnOk}
use Rattle.model.specs.declared.object.Role.TheVariants as role
use Rattle.checkpoint.specs.Journal as journal
use Rattle.object_cache.proofs.Freezing.{put_or_body}
use Rattle.object_cache.proofs.Outcomes.{IsSeenAs, none_of}
use Rattle.object_cache.proofs.Objects.{content_in, saved_below, stored_next}
use Rattle.object_cache.proofs.Caching.{no_staging}

as_page : (o : Option Entry) (c : Content Cap) → present_body o role.Page c ≡ entry_body o c
as_page o c = search arith

module _ {s : Stored} {m : Memory} {all : Bool} {left count : ℕ} (is : IsCache all s m left count) (none : s.frozen ≡ None) (n : ℕ)
    (role_is : (header_at m.headers n).role ≡ role.Page) where
  -- the present content of the page is in its entry, or is the newest on the device
  pub page_held : content_at s m n ≡ held_now m.entries s n
  page_held = search (arith, as_page, no_staging, put_or_body)

  module _ (age : ℕ) (holds : is_page (content_at s m n) ≡ true) where
    abbrev words : List ℕ
    words = words_in (content_at s m n)

    abbrev after : Stored
    after = on_snapshots (journaled age n words) s

    abbrev page : Frame
    page = with_words words (frame_at s.saved.frames n)

    within : n < length s.saved.frames
    within = let known = known_page m.headers n role_is in omega (arith, known, is.headers, is.frames)

    below_now : (k : ℕ) → below_at after k ≡ frame_at (set s.saved.frames n page) k
    below_now k = ap (λ o. put_or (frozen_put o k) (frame_at (set s.saved.frames n page) k)) none

    below_other : (k : ℕ) → k ≢ n → below_at after k ≡ below_at s k
    below_other k other = below_now k ∙ get_or-set_other s.saved.frames n k page blank_frame other ∙ sym (saved_below s none k)

    below_here : below_at after n ≡ page
    below_here = below_now n ∙ get_or-set_same s.saved.frames n page blank_frame within

    masked_here : masked (header_at m.headers n).role (content_at s m n) ≡ content_at s m n
    masked_here = ap (λ r. masked r (content_at s m n)) role_is

    fresh : (p : Put) → entry_at m.entries n ≡ None → put_at s.working n ≡ p → ((c : Content Cap) → put_body p c ≡ c) →
        content_at after m n ≡ content_at s m n
    fresh p at put bare = search (arith, no_staging, below_here, page_is, masked_here)

    here_by : (o : Option Entry) (p : Put) → entry_at m.entries n ≡ o → put_at s.working n ≡ p → content_at after m n ≡ content_at s m n
    here_by (Some e) p at put = rw at
    here_by None (Kept f) at put = rw put
    here_by None Absent at put = fresh Absent at put (λ c. refl)
    here_by None Broken at put = fresh Broken at put (λ c. refl)

    content_same : (k : ℕ) → content_at after m k ≡ content_at s m k
    content_same k = elim (cases_eq k n) [
      | inl same ↦ ap (content_at after m) same ∙ (here_by (entry_at m.entries n) (put_at s.working n) refl refl)
          ∙ sym (ap (content_at s m) same)
      | inr other ↦ rw (below_other k other)
    ]

    present_same : (k : ℕ) → present_at after m k ≡ present_at s m k
    present_same k = ap (λ c. record { header = header_at m.headers k; content = c }) (content_same k)

    pub journal_contents : contents_in (on_snapshots (journaled age n (words_in (content_at s m n))) s) m ≡ contents_in s m
    unfolding contents_in
    journal_contents = maps_same (content_at after m) (content_at s m) (length m.headers) (λ k below. content_same k)

    -- if no checkpoint is frozen, the frozen frames are the saved ones
    frozen_was : (k : ℕ) → frozen_at s m k ≡ below_at s k
    frozen_was k = rw (is.idle none k)

    frozen_now : (k : ℕ) → frozen_at after m k ≡ below_at after k
    frozen_now k = rw (is.idle none k)

    -- if the page is untouched, journaling it doesn't change the frame that a fetch reads when there is no working frame
    unwritten_here : n < length m.headers → mark_at m.touched n ≡ false → below_at s n ≡ below_at after n
    unwritten_here inside untouched = search (arith, frozen_was, none, saved_below, page_is, below_here)

    pub journal_stands : IsCache all (on_snapshots (journaled age n (words_in (content_at s m n))) s) m left count
    journal_stands = search (arith, present_same, frozen_was, cases_eq, unwritten_here, below_other, frozen_now, none-some, length-set)

    -- journaling doesn't change the frozen state
    pub journal_frozen : frozen_seen (on_snapshots (journaled age n (words_in (content_at s m n))) s) m left ≡ frozen_seen s m left
    journal_frozen = search arith

-- the answer depends on whether a checkpoint is frozen, not on which one
pub answer_same : {F : Type 0} (f g : F → ℕ) (o : Option F) (old new : Disk) (saved : SavedFrames) (is_known is_page is_saved : Bool)
    (r : Result ℕ Refusal) → IsJournalAnswer old new (option_map f o) saved is_known is_page is_saved r →
    IsJournalAnswer old new (option_map g o) saved is_known is_page is_saved r
answer_same {F} f g o old new saved is_known is_page is_saved r reported = search (arith, none-some)

-- the words matter only if the object is a page
next_words : {F : Type 0} (age n : ℕ) (ws vs : List ℕ) (o : Option F) (saved : SavedFrames) (is_page is_saved : Bool) →
    (o ≡ None → is_page ≡ true → ws ≡ vs) → next_journaled {F = F} age n ws o saved is_page is_saved
    ≡ next_journaled {F = F} age n vs o saved is_page is_saved
next_words {F} age n ws vs o saved is_page is_saved same = search arith

-- facts about a store whose view is s
module _ {D : Type 0} (disk : D → Disk) {d : DurableState D} {m : Memory} {all : Bool} {left count : ℕ} {order : List ℕ} {most_entries : ℕ}
    {s : StoreState D}
    (view : cache_of disk d m left order most_entries ≡ s) (is : IsCache all (stored_of disk d) m left count) (n : ℕ)
    (keepable : AreKeepable (stored_of disk s.durable).saved.geometry most (frames_in s.headers s.contents)) where
  abbrev st : Stored
  st = stored_of disk d

  abbrev header : ObjectHeader
  header = header_at m.headers n

  known : is_page_role header.role ≡ true → n < length m.headers
  known page = known_page m.headers n (role_is_page header.role page)

  pub journal_known : is_page_role (header_at m.headers n).role ≡ true → n < length m.entries
  journal_known page = let within = known page in omega (arith, within, is.headers, is.entries)

  pub journal_object : is_page_role (header_at m.headers n).role ≡ true → n < object_count (stored_of disk d).saved.geometry
  journal_object page = let within = known page in omega (arith, within, is.headers)

  content_page : is_page_role header.role ≡ true → is_page (content_at st m n) ≡ true
  content_page page = search (
    arith,
    known page,
    frame_in m.headers (contents_in st m) n (known page),
    content_is_page,
    content_in,
    role_is_page,
  )

  pub journal_page : (stored_of disk d).frozen ≡ None → is_page_role (header_at m.headers n).role ≡ true →
      is_page (held_now m.entries (stored_of disk d) n) ≡ true
  journal_page none page = subst (λ c. is_page c ≡ true) (page_held is none n (role_is_page header.role page)) (content_page page)

  words_seen : st.frozen ≡ None → is_page_role header.role ≡ true → words_in (held_now m.entries st n) ≡ words_in (held_at s.contents n)
  words_seen none page = rw (
    ← page_held is none n (role_is_page header.role page),
    sym (content_in st m n (known page))
        ∙ ap (λ t. held_at t.contents n) view,
  )

  module _ (new : DurableState D) (age : ℕ) where
    abbrev IsThere : Type 0
    IsThere = (option_map left_of st.frozen ≡ None) × (is_page_role header.role ≡ true)

    abbrev IsDone : Type 0
    IsDone = stored_of disk new ≡ on_snapshots (journaled age n (words_in (held_now m.entries st n))) st

    -- if the journal is done, the durable store has the saved page with its present words, and nothing else changes
    done_is : IsThere → IsDone → stored_of disk new ≡ on_snapshots (journaled age n (words_in (content_at st m n))) st
    done_is there done = rw (page_held is (none_of left_of st.frozen there.0) n (role_is_page header.role there.1)) done

    pub journal_next : {T E : Type 0} (r : Result T E) → OnOk r IsThere → OnOk r IsDone → OnErr r (stored_of disk new ≡ st) →
        IsSeenAs all disk new m left count order most_entries (record s { durable = new }) ×
        OnOk r (snapshots_of disk (cache_of disk new m left order most_entries)
        ≡ journaled age n (words_in (held_at s.contents n)) (snapshots_of disk s)) ×
        OnErr r (snapshots_of disk (cache_of disk new m left order most_entries) ≡ snapshots_of disk s)
    journal_next (Ok x) there done undone =
        let none = none_of left_of st.frozen there.0 in
        let page = role_is_page header.role there.1 in
        let now = done_is there done in
        let next = stored_next disk view now (journal_stands is none n page age (content_page there.1))
        (journal_contents is none n page age (content_page there.1)) (journal_frozen is none n page age (content_page there.1)) in (
          next,
          ap (snapshots_of disk) next.view
              ∙ ap (λ t. let a : Snapshots FrozenFrames = record { frozen = s.frozen; saved = t.saved; to_move = t.to_move } in a) done
              ∙ ap (λ ws. journaled age n ws (record { frozen = s.frozen; saved = st.saved; to_move = st.to_move }))
              (words_seen none there.1)
              ∙ ap (λ t. journaled age n (words_in (held_at s.contents n))
              (record { frozen = s.frozen; saved = (stored_of disk t.durable).saved; to_move = (stored_of disk t.durable).to_move })) view,
          tt,
        )
    journal_next (Err e) there done undone = (
      stored_next disk view undone is refl refl,
      tt,
      ap (λ t. let a : Snapshots FrozenFrames = record { frozen = frozen_seen t m left; saved = t.saved; to_move = t.to_move } in a) undone
          ∙ ap (λ t. snapshots_of disk t) view,
    )

    -- the count of frozen objects that are left is the same in the view as in the store
    left_seen : (o : Option FrozenPuts) →
        option_map (λ (f : FrozenFrames). f.left) (option_map (λ (f : FrozenPuts). record
        { frames = frozen_in st m; size = f.size; left = left }) o) ≡
        option_map (λ f. left) o
    left_seen o = search arith

    pub answer_seen : (r : Result ℕ Refusal) → IsJournalAnswer (disk d.beneath) (disk new.beneath)
        (option_map left_of (stored_of disk d).frozen) (stored_of disk d).saved
        (nat_lt n (length m.headers)) (is_page_role (header_at m.headers n).role)
        (journal.is_same_page (header_at m.headers n).allocations (frame_at (stored_of disk d).saved.frames n)) r →
        IsJournalAnswer (disk s.durable.beneath) (disk new.beneath) (option_map (λ f. f.left) s.frozen) (stored_of disk s.durable).saved
        (nat_lt n (length s.headers)) (is_page_role (header_at s.headers n).role)
        (journal.is_same_page (header_at s.headers n).allocations (frame_at (stored_of disk s.durable).saved.frames n)) r
    answer_seen r reported = search (arith, left_seen, answer_same)

    pub moments_seen : LeavesOneOf (disk d.beneath) (disk new.beneath) (stored_of disk d).saved
        (next_journaled age n (words_in (held_now m.entries (stored_of disk d) n)) (stored_of disk d).frozen (stored_of disk d).saved
        (is_page_role (header_at m.headers n).role) (journal.is_same_page (header_at m.headers n).allocations
        (frame_at (stored_of disk d).saved.frames n))) → LeavesOneOf (disk s.durable.beneath) (disk new.beneath)
        (stored_of disk s.durable).saved
        (next_journaled age n (words_in (held_at s.contents n)) s.frozen (stored_of disk s.durable).saved
        (is_page_role (header_at s.headers n).role)
        (journal.is_same_page (header_at s.headers n).allocations (frame_at (stored_of disk s.durable).saved.frames n)))
    moments_seen moments = search (arith, next_words, words_seen, next_same)

-- ---- the page is read first

words_read : (b : Body) (slots : List Cap) (ws : List ℕ) → is_page (content_of b slots ws) ≡ true → ws ≡ words_in (content_of b slots ws)
words_read other slots ws page = search arith

pub read_words : (read : ObjectHeader × Body) (room : Scratch) (f : Frame) → frame_of read room ≡ f → is_page f.content ≡ true →
    room.words ≡ words_in f.content
read_words read room f found page = search (arith, words_read)

-- a crash while the page is read, and then saved, leaves the old or the new saved state
pub read_first : {D : Type 0} (disk : D → Disk) (a b : DurableState D) (new : Disk) (age n : ℕ) (vs ws : List ℕ) → ReadsStore disk a b →
    is_sound disk a → vs ≡ ws →
    LeavesEither (disk b.beneath) new (stored_of disk b).saved (journaled_saved age n vs (stored_of disk b).saved) →
    LeavesEither (disk a.beneath) new (stored_of disk a).saved (journaled_saved age n ws (stored_of disk a).saved)
read_first {D} disk a b new age n vs ws reads sound same moments = search (arith, leaves_on, leaves_weaker)

-- the present content of a page that has an entry is the one in the entry
pub held_is : (es : List (Option Entry)) (s : Stored) (n : ℕ) (c : Content Cap) → option_map present_of (entry_at es n) ≡ Some c →
    held_now es s n ≡ c
held_is es s n c is = search (arith, none-some, same_Some)

pub held_newest : (es : List (Option Entry)) (s : Stored) (n : ℕ) → is_some (entry_at es n) ≡ false → held_now es s n ≡ (newest s n).content
held_newest es s n is = search arith
