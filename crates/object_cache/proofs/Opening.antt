-- A store is made over a device that was opened: its objects are the saved ones.
use Rattle.object_cache.proofs.Names.{inl, inr, ℕ, Bool, false, true≢false, List, [], length, replicate, Option, None, option_map, refl, sym, ap, subst, arith}
use Rattle.object_cache.proofs.Names.{get_or-map, cases_lt, ext_get_or, get_or_past, length-map, length-replicate, none-some, Frame, ObjectHeader, blank_frame}
use Rattle.object_cache.proofs.Names.{frame_at, frames_in, header_at, headers, untouched, object_count, Image, Disk, Absent, put_at, SavedFrames, Holds}
use Rattle.object_cache.proofs.Names.{OpensDurable, DurableState, Stored, stored_of, HaveTheirRoles, OpensStore, Entry, entry_at, Memory, memory_of, content_at}
use Rattle.object_cache.proofs.Names.{present_at, frozen_at, contents_in, StoreState, IsCache, IsJustOpened, IsOpenOver, AreAll, HoldBodies, EntriesState}
use Rattle.object_cache.proofs.Names.{bodies_of, cache_of, parts_of, view_of, Some, length-set, length-append, get_or-set_same, get_or-set_other}
use Rattle.object_cache.proofs.Names.{get_or_append_left, get_or_at, same_Some, Content, Cap, new_entry, with_new, AreTaken, AreInserted, HaveRoom, IsUnkept}
use Rattle.object_cache.proofs.Names.{IsSome, TakenState, true, changing, with_body, with_entry, is_some, all_of}
use Rattle.std.proofs.Common.{◌≡◌, ◌∷◌, ◌∙◌, ◌<◌, ◌≤◌, ◌+◌, ◌++◌}
use Rattle.object_cache.proofs.Freezing.{masked_same, none_counted}
use Rattle.object_cache.proofs.Marking.{alike}
use Rattle.object_cache.proofs.Objects.{content_in, contents_count, cached_entry, saved_below}
use Rattle.model.specs.declared.object.Content.TheVariants as content
use Rattle.object_cache.proofs.PutsOut.{dropping}

-- the header of each saved frame has the role of its content
pub held_roles : (size : ℕ) (c : Image) (saved : SavedFrames) → Holds size c saved → HaveTheirRoles saved.frames
held_roles size c saved holds = search (arith, cases_lt, get_or_past)

again : (fs : List Frame) → frames_in (headers fs) (bodies_of fs) ≡ fs
unfolding frames_in
again [] = refl
again (f ∷ fs) = ap (λ gs. f ∷ gs) (again fs)

-- the memory of a store that was just opened
abbrev pub open_memory : List ObjectHeader → List ObjectHeader → EntriesState → Memory
open_memory hs fh e = memory_of hs fh (replicate (length hs) false) (replicate (length hs) false) (replicate (length hs) false) e.at None

module _ (s : Stored) (hs fh : List ObjectHeader) (fh_count : length fh ≡ length hs) (is : IsJustOpened s hs) (e : EntriesState)
    (hold : HoldBodies e s.saved.frames) where
  abbrev m : Memory
  m = open_memory hs fh e

  each : length hs ≡ length s.saved.frames
  each = ap length is.headers_are ∙ length-map s.saved.frames (λ f. f.header)

  unput_here : (n : ℕ) → put_at s.working n ≡ Absent
  unput_here n = ap (λ ps. put_at ps n) is.working ∙ alike (length s.saved.frames) n Absent

  header_is : (n : ℕ) → header_at hs n ≡ (frame_at s.saved.frames n).header
  header_is n = ap (λ xs. header_at xs n) is.headers_are ∙ get_or-map (λ f. f.header) s.saved.frames n blank_frame

  content_is : (n : ℕ) → content_at s m n ≡ (frame_at s.saved.frames n).content
  content_is n = search (arith, unput_here, is.idle, saved_below, header_is, masked_same)

  present_is : (n : ℕ) → present_at s m n ≡ frame_at s.saved.frames n
  present_is n = search (arith, header_is, content_is)

  frozen_is : (n : ℕ) → frozen_at s m n ≡ frame_at s.saved.frames n
  frozen_is n = rw (alike (length hs) n false) (saved_below s is.idle n)

  open_contents : contents_in s m ≡ bodies_of s.saved.frames
  open_contents = ext_get_or content.Free (contents_in s m) (bodies_of s.saved.frames)
      (contents_count s m ∙ each ∙ sym (length-map s.saved.frames (λ f. f.content)))
      (λ n lt. content_in s m n (omega (arith, lt, contents_count s m)) ∙ content_is n ∙
      sym (get_or-map (λ f. f.content) s.saved.frames n blank_frame))

  marks_are : length (replicate (length hs) false) ≡ object_count s.saved.geometry
  marks_are = length-replicate {A = Bool} (length hs) false ∙ each ∙ is.frames

  pub open_cache : {all : Bool} → (all ≡ true → AreAll e) → IsCache all s (open_memory hs fh e) 0 0
  open_cache {all} whole =
      let some : all ≡ true → (n : ℕ) → n < length hs → IsSome (entry_at e.at n) =
      λ is_all n within. whole is_all n (omega (arith, within, each, hold.each)) in
      search (arith, some, each, marks_are, length-replicate, none_counted, alike, unput_here, present_is, frozen_is, none-some)

  pub open_over : {D : Type 0} (disk : D → Disk) (d : DurableState D) → stored_of disk d ≡ s →
      IsOpenOver disk d e.most (cache_of disk d (open_memory hs fh e) 0 e.order e.most)
  unfolding untouched
  open_over {D} disk d same = search (arith, open_contents, each, contents_count, cached_entry)

-- facts about a durable store that was just opened
module _ {D : Type 0} (disk : D → Disk) (device : D) (d : DurableState D) (hs : List ObjectHeader) (opened : OpensDurable disk device d)
    (took : hs ≡ headers (stored_of disk d).saved.frames) where
  pub just_opened : IsJustOpened (stored_of disk d) hs
  just_opened = record {
    headers_are = took;
    roles = held_roles (disk device).sectors (disk device).seen (stored_of disk d).saved opened.holds;
    frames = subst (λ t. length t.frames ≡ object_count t.geometry) opened.holds.2 opened.holds.1.count;
    working = opened.working;
    idle = opened.frozen;
  }

  -- a store over it is opened
  pub opens_store : (most : ℕ) (s : StoreState D) → IsOpenOver disk d most s → OpensStore disk device (parts_of disk s) (view_of disk s)
  opens_store most s over = search (arith, again)

-- ---- saved objects are taken frame by frame

-- at first no number has an entry
pub none_inserted : (count : ℕ) (e : EntriesState) → e ≡ record { at = replicate count None; order = []; most = all_of count } →
    count ≤ all_of count → AreInserted e 0 count
none_inserted count e is whole = search (arith, each, length-replicate, alike)

-- one more number gets an entry
pub one_inserted : (e : EntriesState) (k count : ℕ) → AreInserted e k count → k < count → (c : Content Cap) →
    AreInserted (with_new k c e) (k + 1) count
one_inserted e k count are below c = record {
  each = length-set e.at k (Some (new_entry c)) ∙ are.each;
  used = omega (arith, are.used);
  most = are.most;
  whole = are.whole;
  earlier = λ n less. elim (cases_lt n k) [
    | inl earlier ↦
        subst IsUnkept (sym (get_or-set_other e.at k n (Some (new_entry c)) None (λ same. omega (arith, earlier, same))))
        (are.earlier n earlier)
    | inr last ↦
        let same : k ≡ n = omega (arith, last, less) in
        subst (λ i. IsUnkept (entry_at (with_new k c e).at i)) same
        (c, get_or-set_same e.at k (Some (new_entry c)) None (omega (arith, below, are.each)))
  ];
  later = λ n past. get_or-set_other e.at k n (Some (new_entry c)) None (λ same. omega (arith, past, same))
      ∙ are.later n (omega (arith, past));
}

-- one more entry has lost its frozen copy
pub dropped_one : (e : EntriesState) (k : ℕ) → is_some (entry_at e.at k) ≡ true → k < length e.at →
    ((n : ℕ) → n < k → IsUnkept (entry_at e.at n)) →
    (n : ℕ) → n < k + 1 → IsUnkept (entry_at (with_entry dropping k e.at) n)
dropped_one e k some within before n less = elim (cases_lt n k) [
  | inl earlier ↦
      subst IsUnkept (sym (get_or-set_other e.at k n (option_map dropping (entry_at e.at k)) None (λ same. omega (arith, earlier, same))))
      (before n earlier)
  | inr last ↦
      let same : k ≡ n = omega (arith, last, less) in
      subst (λ i. IsUnkept (entry_at (with_entry dropping k e.at) i)) same (go (entry_at e.at k) refl some)
] where
  go : (o : Option Entry) → entry_at e.at k ≡ o → is_some o ≡ true → IsUnkept (entry_at (with_entry dropping k e.at) k)
  go None at is = absurd (true≢false (sym is))
  go (Some x) at is = (x.present, get_or-set_same e.at k (option_map dropping (entry_at e.at k)) None within ∙ ap (option_map dropping) at)

pub blank_hold : (fs : List Frame) (most : ℕ) → HoldBodies (record { at = replicate (length fs) None; order = []; most = most }) fs
blank_hold fs most = search (arith, each, length-replicate, none-some, alike)

-- facts when one more frame is taken
module _ (e : EntriesState) (taken count : ℕ) (room : HaveRoom e taken count) (below : taken < count) (c : Content Cap) where
  abbrev body : Option Entry
  body = option_map (changing (λ (x : Content Cap). c)) (entry_at e.at taken)

  body_is : body ≡ Some (new_entry c)
  body_is = ap (option_map (changing (λ (x : Content Cap). c))) (room.later taken (omega arith) below).1

  pub one_room : HaveRoom (with_body taken c e) (taken + 1) count
  one_room = record {
    each = length-set e.at taken body ∙ room.each;
    most = room.most;
    later = λ n past within. subst IsUnkept (sym (get_or-set_other e.at taken n body None (λ same. omega (arith, past, same))))
        (room.later n (omega (arith, past)) within);
  }

  pub one_body : (fs : List Frame) (f : Frame) → length fs ≡ taken → f.content ≡ c →
      ((n : ℕ) → n < length fs → entry_at e.at n ≡ Some (new_entry (frame_at fs n).content)) →
      (n : ℕ) → n < length (fs ++ f ∷ []) → entry_at (with_body taken c e).at n ≡ Some (new_entry (frame_at (fs ++ f ∷ []) n).content)
  one_body fs f many is before n within = search (
    arith,
    cases_lt,
    get_or_append_left,
    get_or-set_other,
    length-append,
    get_or-set_same,
    body_is,
    get_or_at,
  )

module _ (o : Option EntriesState) (taken count : ℕ) (below : taken < count)
    (rooms : (e : EntriesState) → o ≡ Some e → HaveRoom e taken count) where
  pub held_in : (e : EntriesState) → o ≡ Some e → is_some (entry_at e.at taken) ≡ true
  held_in e at = ap is_some ((rooms e at).later taken (omega arith) below).1

  pub kept_room : (c : Content Cap) (e : EntriesState) → option_map (with_body taken c) o ≡ Some e → HaveRoom e (taken + 1) count
  kept_room c e is = go o refl is
    where
      go : (p : Option EntriesState) → o ≡ p → option_map (with_body taken c) p ≡ Some e → HaveRoom e (taken + 1) count
      go None at gone = absurd (none-some e gone)
      go (Some x) at some = subst (λ y. HaveRoom y (taken + 1) count) (same_Some (with_body taken c x) e some)
          (one_room x taken count (rooms x at) below c)

headers_more : (fs : List Frame) (f : Frame) → headers (fs ++ f ∷ []) ≡ headers fs ++ f.header ∷ []
headers_more [] f = refl
headers_more (g ∷ gs) f = ap (λ hs. g.header ∷ hs) (headers_more gs f)

pub taken_more : (s : TakenState) (fs : List Frame) (f : Frame) → length s.headers < s.count →
    ((e : EntriesState) → s.entries ≡ Some e → HaveRoom e (length s.headers) s.count) → AreTaken s fs →
    AreTaken (record {
      headers = s.headers ++ f.header ∷ [];
      entries = option_map (with_body (length s.headers) f.content) s.entries;
      count = s.count;
    })
    (fs ++ f ∷ [])
taken_more s fs f below rooms took = record {
  headers_are = ap (λ hs. hs ++ f.header ∷ []) took.headers_are ∙ sym (headers_more fs f);
  bodies = λ e is. go s.entries refl e is;
} where
  many : length fs ≡ length s.headers
  many = omega (arith, ap length took.headers_are, length-map fs (λ f. f.header))

  go : (p : Option EntriesState) → s.entries ≡ p → (e : EntriesState) → option_map (with_body (length s.headers) f.content) p ≡ Some e →
      (n : ℕ) → n < length (fs ++ f ∷ []) → entry_at e.at n ≡ Some (new_entry (frame_at (fs ++ f ∷ []) n).content)
  go None at e gone = absurd (none-some e gone)
  go (Some x) at e some =
      subst (λ y. (n : ℕ) → n < length (fs ++ f ∷ []) → entry_at y.at n ≡ Some (new_entry (frame_at (fs ++ f ∷ []) n).content))
      (same_Some (with_body (length s.headers) f.content x) e some)
      (one_body x (length s.headers) s.count (rooms x at) below f.content fs f many refl (took.bodies x at))

-- facts after all frames were taken
module _ (s : TakenState) (fs : List Frame) (took : AreTaken s fs) (e : EntriesState) (at : s.entries ≡ Some e)
    (room : HaveRoom e (length s.headers) s.count)
    (all : length s.headers ≡ s.count) where
  frames_count : length fs ≡ length e.at
  frames_count = omega (arith, ap length took.headers_are, length-map fs (λ f. f.header), room.each, all)

  pub taken_hold : HoldBodies e fs
  taken_hold = search (arith, each, frames_count, cases_lt, same_Some, none-some, get_or_past)

  pub taken_all : AreAll e
  taken_all n within = ap is_some (took.bodies e at n (omega (arith, within, frames_count)))

-- if fewer frames were taken than there are numbers, there is memory for one more
pub taken_below : {s t : TakenState} → s ≡ t → (fs : List Frame) → AreTaken t fs → length fs < t.count → length s.headers < s.count
taken_below {s} {t} view fs took few = search (arith, length-map)
