-- An announced object changes: no frozen frame changes, and the invariant still holds.
use Rattle.object_cache.proofs.Names.{put_at, FrozenPuts, ℕ, Bool, true, false, true≢false, List, length, set, Option, Some, None, is_some, option_map, refl}
use Rattle.object_cache.proofs.Names.{sym, ap, subst, arith, cases_eq, none-some, same_Some, Cap, ObjectHeader, Content, header_at, AreKeepable, Kept, most}
use Rattle.object_cache.proofs.Names.{Stored, maps_same, map_set, Entry, entry_at, kept_of, Memory, mark_at, present_body, content_at, present_at, newest_body}
use Rattle.object_cache.proofs.Names.{frozen_body, frozen_at, frozen_state_of, frozen_state_in_memory, contents_in, frozen_in, frozen_states_in, IsCache}
use Rattle.object_cache.proofs.Names.{IsSome, length-set, get_or-map-range_with_len, length-map-range_with_len, get_or-map, get_or-set_same, get_or-set_other}
use Rattle.object_cache.proofs.Names.{Role, blank_header, held_at, Disk, DurableState, stored_of, with_entry, changing, present_of, AreOrdered, StoreState}
use Rattle.object_cache.proofs.Names.{IsBounded, IsAnnouncedIn, IsFetchedIn, cache_of, cached_in, cached_at, with_content_in, map-set_same, [], cases_lt}
use Rattle.object_cache.proofs.Names.{ext_get_or, get_or_append_left, get_or_at, touched_count, frozen_seen, some_map, newest, Ok, Err, Result, AreObjectsOf}
use Rattle.object_cache.proofs.Names.{AllObjects, IfOk, parts_of, below_at, frame_at, frozen_put, put_or}
use Rattle.std.proofs.Common.{◌≡◌, ◌≢◌, ◌⊎◌, ◌<◌, ◌≤◌, ◌∙◌, ◌+◌, ◌∷◌, ◌++◌}
use Rattle.object_cache.proofs.Outcomes.{IsSeenAs, none_of}
use Rattle.model.specs.declared.object.Role.TheVariants as role
use Rattle.model.specs.declared.object.Content.TheVariants as content

-- a property of n, and of all other numbers, holds of all
pub of_each : {P : ℕ → Type 0} (n : ℕ) → P n → ((k : ℕ) → k ≢ n → P k) → (k : ℕ) → P k
of_each {P} n here other k = search (arith, cases_eq)

-- if no checkpoint is frozen, the frame below the working one is the saved one
pub saved_below : (s : Stored) → s.frozen ≡ None → (n : ℕ) → below_at s n ≡ frame_at s.saved.frames n
saved_below s none n = ap (λ o. put_or (frozen_put o n) (frame_at s.saved.frames n)) none

-- ---- another memory and durable store with the same objects and frozen frames

pub record Alike (s : Stored) (m : Memory) (t : Stored) (u : Memory) : Type 0 where
  pub headers : u.headers ≡ m.headers
  pub content : (k : ℕ) → content_at t u k ≡ content_at s m k
  pub frozen : (k : ℕ) → frozen_at t u k ≡ frozen_at s m k

module _ {s t : Stored} {m u : Memory} (same : Alike s m t u) where
  pub present_alike : (k : ℕ) → present_at t u k ≡ present_at s m k
  present_alike k = λ i. record { header = header_at (same.headers i) k; content = same.content k i }

  pub contents_alike : contents_in t u ≡ contents_in s m
  unfolding contents_in
  contents_alike = search (arith, maps_same)

  pub frozen_alike : frozen_in t u ≡ frozen_in s m
  unfolding frozen_in
  frozen_alike = rw same.headers (maps_same (frozen_at t u) (frozen_at s m) (length m.headers) (λ k below. same.frozen k))

  -- the parts of the invariant about clean, untouched and frozen numbers still hold
  module _ {all : Bool} {left count : ℕ} (is : IsCache all s m left count) where
    pub clean_alike : (k : ℕ) → mark_at m.dirty k ≡ false → mark_at m.touched k ≡ true → put_at s.working k ≡ Kept (present_at t u k)
    clean_alike k clean touched = is.clean k clean touched ∙ ap Kept (sym (present_alike k))

    pub unwritten_alike : (k : ℕ) → k < length m.headers → mark_at m.touched k ≡ false → present_at t u k ≡ frozen_at t u k
    unwritten_alike k below untouched = present_alike k ∙ is.unwritten k below untouched ∙ sym (same.frozen k)

    pub keepable_alike : (f : FrozenPuts) → s.frozen ≡ Some f → AreKeepable s.saved.geometry most (frozen_in t u)
    keepable_alike f running = subst (AreKeepable s.saved.geometry most) (sym frozen_alike) (is.keepable f running)

-- the memory with these headers and entries
abbrev pub with_objects : Memory → List ObjectHeader → List (Option Entry) → Memory
with_objects m hs es = record m { headers = hs; entries = es }

-- the header or the present body of object n changed; no entry was added or dropped, and no frozen copy changed
pub record Changes (m : Memory) (hs : List ObjectHeader) (es : List (Option Entry)) (n : ℕ) : Type 0 where
  pub header_count : length hs ≡ length m.headers
  pub entry_count : length es ≡ length m.entries
  pub headers : (k : ℕ) → k ≢ n → header_at hs k ≡ header_at m.headers k
  pub entries : (k : ℕ) → k ≢ n → entry_at es k ≡ entry_at m.entries k
  pub kept : option_map kept_of (entry_at es n) ≡ option_map kept_of (entry_at m.entries n)
  pub role : entry_at es n ≡ None → ((header_at hs n).role ≡ (header_at m.headers n).role) ⊎ ((header_at hs n).role ≡ role.Free)

-- if an object was written since the freeze, its frozen body doesn't depend on the present one
by_kept : (o p : Option Entry) (below : Content Cap) → option_map kept_of o ≡ option_map kept_of p →
    frozen_body o true below ≡ frozen_body p true below
by_kept o p below same = search (arith, none-some, same_Some)

kept_some : (o p : Option Entry) → option_map kept_of o ≡ option_map kept_of p → IsSome p → IsSome o
kept_some o p same some = search (arith, none-some)

frozen_state_by_kept : (o p : Option Entry) (pending : Bool) → option_map kept_of o ≡ option_map kept_of p →
    frozen_state_of o pending true ≡ frozen_state_of p pending true
frozen_state_by_kept o p pending same = search (arith, none-some, same_Some)

module _ (s : Stored) {m : Memory} {hs : List ObjectHeader} {es : List (Option Entry)} {n : ℕ} (change : Changes m hs es n) where
  abbrev changed : Memory
  changed = with_objects m hs es

  pub content_elsewhere : (k : ℕ) → k ≢ n → content_at s changed k ≡ content_at s m k
  content_elsewhere k other = rw (change.entries k other, change.headers k other)

  present_elsewhere : (k : ℕ) → k ≢ n → present_at s changed k ≡ present_at s m k
  present_elsewhere k other = search (arith, content_elsewhere)

  -- only the content of the changed object differs
  pub contents_changed : (c : Content Cap) → n < length m.headers → content_at s changed n ≡ c →
      contents_in s changed ≡ set (contents_in s m) n c
  unfolding contents_in
  contents_changed c within here = search (arith, map_set, content_elsewhere)

  pub contents_same : content_at s changed n ≡ content_at s m n → contents_in s changed ≡ contents_in s m
  unfolding contents_in
  contents_same here = rw change.header_count (maps_same (content_at s changed) (content_at s m) (length m.headers)
      (λ k below. of_each n here content_elsewhere k))

  module _ (touched : mark_at m.touched n ≡ true) where
    frozen_stays : (k : ℕ) → frozen_at s changed k ≡ frozen_at s m k
    frozen_stays = search (arith, of_each, by_kept)

    pub frozen_same : frozen_in s changed ≡ frozen_in s m
    unfolding frozen_in
    frozen_same = rw change.header_count (maps_same (frozen_at s changed) (frozen_at s m) (length m.headers) (λ k below. frozen_stays k))

    frozen_state_stays : (k : ℕ) → frozen_state_in_memory changed k ≡ frozen_state_in_memory m k
    frozen_state_stays = search (arith, of_each, frozen_state_by_kept)

    pub frozen_state_same : frozen_states_in changed ≡ frozen_states_in m
    unfolding frozen_states_in
    frozen_state_same = search (arith, maps_same, frozen_state_stays)

  module _ {all : Bool} {left count : ℕ} (is : IsCache all s m left count) (dirty : mark_at m.dirty n ≡ true) where
    touched_here : mark_at m.touched n ≡ true
    touched_here = is.marked n dirty

    -- a number without a mark differs from a marked one
    unmarked : (marks : List Bool) → mark_at marks n ≡ true → (k : ℕ) → mark_at marks k ≡ false → k ≢ n
    unmarked marks here k not_here same = true≢false (sym here ∙ ap (mark_at marks) (sym same) ∙ not_here)

    apart_here : (e : Entry) → entry_at es n ≡ Some e → (e.kept ≡ None) ⊎ (mark_at m.pending n ≡ true)
    apart_here e at = search (arith, none-some, same_Some)

    none_here : entry_at es n ≡ None → entry_at m.entries n ≡ None
    none_here at = none_of kept_of (entry_at m.entries n) (sym change.kept ∙ ap (option_map kept_of) at)

    some_here : IsSome (entry_at m.entries n) → IsSome (entry_at es n)
    some_here some = kept_some (entry_at es n) (entry_at m.entries n) change.kept some

    whole_still : all ≡ true → (k : ℕ) → k < length m.headers → IsSome (entry_at es k)
    whole_still is_all = of_each n (λ within. some_here (is.whole is_all n within))
        (λ k other. rw (change.entries k other) (is.whole is_all k))

    pub still_cache : IsCache all s changed left count
    still_cache = search (
      arith,
      present_elsewhere,
      unmarked,
      touched_here,
      frozen_stays,
      frozen_same,
      of_each,
      apart_here,
      none_here,
      whole_still,
    )

-- ---- a store's view after one object changed

-- replacing a header by one of the same role satisfies `Changes`
pub header_changes : (m : Memory) (n : ℕ) (h : ObjectHeader) → n < length m.headers → h.role ≡ (header_at m.headers n).role →
    Changes m (set m.headers n h) m.entries n
header_changes m n h within same = search (arith, length-set, get_or-set_other, get_or-set_same)

-- replacing the present body in an entry keeps the frozen copy
kept_stays : (f : Content Cap → Content Cap) (o : Option Entry) → option_map kept_of (option_map (changing f) o) ≡ option_map kept_of o
kept_stays f o = search arith

present_kept : (f : Content Cap → Content Cap) (n : ℕ) (es : List (Option Entry)) → n < length es →
    option_map kept_of (entry_at (with_entry (changing f) n es) n) ≡ option_map kept_of (entry_at es n)
present_kept f n es within = ap (option_map kept_of) (get_or-set_same es n (option_map (changing f) (entry_at es n)) None within)
    ∙ kept_stays f (entry_at es n)

-- changing an entry doesn't change which numbers have entries
pub cached_stay : (change : Entry → Entry) (n : ℕ) (es : List (Option Entry)) → cached_in (with_entry change n es) ≡ cached_in es
unfolding cached_in
cached_stay change n es = map-set_same is_some es n (option_map change (entry_at es n)) None (some_map change (entry_at es n))

-- replacing a header, and the present body if there is an entry, satisfies `Changes`
edit_changes : (m : Memory) (n : ℕ) (h : ObjectHeader) (f : Content Cap → Content Cap) → n < length m.headers → n < length m.entries →
    (entry_at m.entries n ≡ None → h.role ≡ role.Free) → Changes m (set m.headers n h) (with_entry (changing f) n m.entries) n
edit_changes m n h f within entry_within free = search (arith, length-set, get_or-set_other, present_kept, get_or-set_same, none_of)

body_changes : (m : Memory) (n : ℕ) (f : Content Cap → Content Cap) → n < length m.entries →
    Changes m m.headers (with_entry (changing f) n m.entries) n
body_changes m n f within = search (arith, length-set, get_or-set_other, present_kept)

-- after a body is replaced by c, the present body is c; without an entry the object must be free, and c `Free`
edited_body : (c : Content Cap) (o : Option Entry) (r : Role) (newest : Content Cap) → (o ≡ None → (r ≡ role.Free) × (c ≡ content.Free)) →
    present_body (option_map (changing (λ x. c)) o) r newest ≡ c
edited_body c o r newest free = search arith

edited_content : (s : Stored) (m : Memory) (n : ℕ) (h : ObjectHeader) (c : Content Cap) → n < length m.headers → n < length m.entries →
    (entry_at m.entries n ≡ None → (h.role ≡ role.Free) × (c ≡ content.Free)) →
    content_at s (with_objects m (set m.headers n h) (with_entry (changing (λ x. c)) n m.entries)) n ≡ c
edited_content s m n h c within entry_within free = search (arith, get_or-set_same, edited_body)

body_of : (f : Content Cap → Content Cap) (o : Option Entry) (r : Role) (newest : Content Cap) → IsSome o →
    present_body (option_map (changing f) o) r newest ≡ f (present_body o r newest)
body_of f o r newest some = search arith

body_content : (s : Stored) (m : Memory) (n : ℕ) (f : Content Cap → Content Cap) → n < length m.entries → IsSome (entry_at m.entries n) →
    content_at s (with_objects m m.headers (with_entry (changing f) n m.entries)) n ≡ f (content_at s m n)
body_content s m n f within some = search (arith, get_or-set_same, body_of)

pub content_in : (s : Stored) (m : Memory) (n : ℕ) → n < length m.headers → held_at (contents_in s m) n ≡ content_at s m n
unfolding contents_in
content_in s m n within = get_or-map-range_with_len (content_at s m) 0 (length m.headers) n n content.Free within (omega arith)

-- ---- a fetched object

pub cached_entry : (es : List (Option Entry)) (n : ℕ) → cached_at (cached_in es) n ≡ is_some (entry_at es n)
unfolding cached_in
cached_entry es n = get_or-map is_some es n None

pub some_of : (o : Option Entry) → IsSome o → (e : Entry) × (o ≡ Some e)
some_of o is = search arith

-- a store has at most as many entries as its capacity
pub bounded_seen : {D : Type 0} (disk : D → Disk) {d : DurableState D} {m : Memory} {all : Bool} {left count : ℕ} {order : List ℕ}
    {most_entries : ℕ} {s : StoreState D} → cache_of disk d m left order most_entries ≡ s → IsCache all (stored_of disk d) m left count →
    AreOrdered (record { at = m.entries; order = order; most = most_entries }) → IsBounded s
bounded_seen {D} disk {d} {m} {left} {count} {order} {most_entries} {s} view is are = search (arith, cached_entry)

pub present_is : (o : Option Entry) (c : Content Cap) (r : Role) (newest : Content Cap) → option_map present_of o ≡ Some c →
    present_body o r newest ≡ c
present_is o c r newest is = search (arith, none-some, same_Some)

pub contents_count : (s : Stored) (m : Memory) → length (contents_in s m) ≡ length m.headers
unfolding contents_in
contents_count s m = length-map-range_with_len (content_at s m) 0 (length m.headers)

module _ {D : Type 0} (disk : D → Disk) {d : DurableState D} {m : Memory} {all : Bool} {left count : ℕ} {order : List ℕ} {most_entries : ℕ}
    {s : StoreState D}
    (view : cache_of disk d m left order most_entries ≡ s) (is : IsCache all (stored_of disk d) m left count) {n : ℕ}
    (fetched : IsFetchedIn s n) where
  pub entry_some : IsSome (entry_at m.entries n)
  entry_some = sym (cached_entry m.entries n) ∙ ap (λ t. cached_at t.cached n) view ∙ fetched.cached

  pub entry_found : (e : Entry) × (entry_at m.entries n ≡ Some e)
  entry_found = some_of (entry_at m.entries n) entry_some

  pub fetched_known : n < length m.headers
  fetched_known = omega (arith, fetched.header, ap (λ t. length t.headers) view)

  -- the entry of a fetched object has the object's content
  pub entry_holds : (c : Content Cap) → option_map present_of (entry_at m.entries n) ≡ Some c → c ≡ held_at s.contents n
  entry_holds c found = search (arith, present_is, content_in, fetched_known)

-- ---- the same memory over another durable store

pub stored_next : {D : Type 0} (disk : D → Disk) {d new : DurableState D} {m : Memory} {all : Bool} {left count : ℕ} {order : List ℕ}
    {most_entries : ℕ} {s : StoreState D} → cache_of disk d m left order most_entries ≡ s → {t : Stored} → stored_of disk new ≡ t →
    IsCache all t m left count → contents_in t m ≡ contents_in (stored_of disk d) m →
    frozen_seen t m left ≡ frozen_seen (stored_of disk d) m left → IsSeenAs all disk new m left count order most_entries
    (record s { durable = new })
stored_next {D} disk {d} {new} {m} {left} {count} {order} {most_entries} {s} view {t} put is contents frozen = search arith

-- ---- an announced object

pub record IsKnown (m : Memory) (n : ℕ) : Type 0 where
  pub header : n < length m.headers
  pub entry : n < length m.entries
  pub dirty : mark_at m.dirty n ≡ true
  pub touched : mark_at m.touched n ≡ true

module _ {D : Type 0} (disk : D → Disk) {d : DurableState D} {m : Memory} {all : Bool} {left count : ℕ} {order : List ℕ} {most_entries : ℕ}
    {s : StoreState D}
    (view : cache_of disk d m left order most_entries ≡ s) (is : IsCache all (stored_of disk d) m left count) {n : ℕ}
    (announced : IsAnnouncedIn s n) where
  abbrev IsNow : Memory → StoreState D → Type 0
  IsNow then t = IsSeenAs all disk d then left count order most_entries t

  pub known : IsKnown m n
  known = search arith

  pub announced_known : n < length m.headers
  announced_known = known.header

  pub announced_entry : n < length m.entries
  announced_entry = known.entry

  module _ {hs : List ObjectHeader} {es : List (Option Entry)} (change : Changes m hs es n) where
    edit_seen : {cs : List (Content Cap)} → cached_in es ≡ cached_in m.entries →
        contents_in (stored_of disk d) (with_objects m hs es) ≡ cs → cache_of disk d (with_objects m hs es) left order most_entries
        ≡ record (cache_of disk d m left order most_entries) { headers = hs; contents = cs }
    edit_seen {cs} cached contents = search (arith, frozen_state_same, known, frozen_same)

  -- replacing a header by one of the same role keeps the invariant
  pub header_becomes : (h : ObjectHeader → ObjectHeader) → ((x : ObjectHeader) → (h x).role ≡ x.role) →
      IsNow (with_objects m (set m.headers n (h (header_at m.headers n))) m.entries)
      (record s { headers = set s.headers n (h (header_at s.headers n)) })
  header_becomes h same =
      let x = header_at m.headers n in
      let change = header_changes m n (h x) known.header (same x) in
      search (
        still_cache (stored_of disk d) change is known.dirty,
        edit_seen change refl (contents_same (stored_of disk d) change
            (ap (λ i. present_body (entry_at m.entries n) i.role (newest_body (stored_of disk d) m n))
            (get_or-set_same m.headers n (h x) blank_header known.header)
            ∙ ap (λ r. present_body (entry_at m.entries n) r (newest_body (stored_of disk d) m n)) (same x)))
            ∙ ap (λ (t : StoreState D). record t { headers = set t.headers n (h (header_at t.headers n)) }) view,
      )

  -- replacing header and content keeps the invariant, if the object has an entry or becomes free
  pub both_become : (h : ObjectHeader → ObjectHeader) (c : Content Cap) →
      (entry_at m.entries n ≡ None → ((h (header_at m.headers n)).role ≡ role.Free) × (c ≡ content.Free)) →
      IsNow (with_objects m (set m.headers n (h (header_at m.headers n))) (with_entry (changing (λ x. c)) n m.entries))
      (record s { headers = set s.headers n (h (header_at s.headers n)); contents = set s.contents n c })
  both_become h c free =
      let x = h (header_at m.headers n) in
      let change = edit_changes m n x (λ y. c) known.header known.entry (λ none. (free none).0) in
      search (
        still_cache (stored_of disk d) change is known.dirty,
        edit_seen change (cached_stay (changing (λ y. c)) n m.entries) (contents_changed (stored_of disk d) change c known.header
            (edited_content (stored_of disk d) m n x c known.header known.entry free))
            ∙ ap (λ (t : StoreState D). record t { headers = set t.headers n (h (header_at t.headers n)); contents = set t.contents n c })
            view,
      )

  -- replacing the content of a fetched object keeps the invariant
  pub content_becomes : IsFetchedIn s n → (f : Content Cap → Content Cap) →
      IsNow (with_objects m m.headers (with_entry (changing f) n m.entries)) (with_content_in s n (f (held_at s.contents n)))
  content_becomes fetched f =
      let change = body_changes m n f known.entry in
      let c = f (content_at (stored_of disk d) m n) in
      search (
        still_cache (stored_of disk d) change is known.dirty,
        edit_seen change (cached_stay (changing f) n m.entries) (contents_changed (stored_of disk d) change c known.header
            (body_content (stored_of disk d) m n f known.entry (entry_some disk view is fetched)))
            ∙ ap (λ x. with_content_in (cache_of disk d m left order most_entries) n (f x))
            (sym (content_in (stored_of disk d) m n known.header)) ∙ ap (λ t. with_content_in t n (f (held_at t.contents n))) view,
      )

-- ---- bodies are copied from their entries, in the order of numbers

-- after the bodies of the first k numbers, that of the next is copied
pub one_copied : (es : List (Option Entry)) (bodies : List (Content Cap)) (k : ℕ) (c : Content Cap) → length bodies ≡ k
    → ((n : ℕ) → n < k → option_map present_of (entry_at es n) ≡ Some (held_at bodies n)) → option_map present_of (entry_at es k) ≡ Some c
    → (n : ℕ) → n < k + 1 → option_map present_of (entry_at es n) ≡ Some (held_at (bodies ++ c ∷ []) n)
one_copied es bodies k c many copied here n below = search (arith, cases_lt, get_or_append_left, get_or_at)

-- facts about a store in which each object has an entry
module _ {D : Type 0} (disk : D → Disk) {d : DurableState D} {m : Memory} {all : Bool} {left count : ℕ} {order : List ℕ} {most_entries : ℕ}
    {s : StoreState D}
    (view : cache_of disk d m left order most_entries ≡ s) (is : IsCache all (stored_of disk d) m left count) where
  -- at most as many numbers are touched as a log half has slots
  pub within_log : touched_count s.touched ≤ (stored_of disk s.durable).saved.geometry.log
  within_log = subst (λ t. touched_count t.touched ≤ (stored_of disk t.durable).saved.geometry.log) view
      (omega (arith, is.within, is.counted))

  pub contents_each : length s.contents ≡ length s.headers
  contents_each = ap (λ t. length t.contents) (sym view) ∙ contents_count (stored_of disk d) m ∙ ap (λ t. length t.headers) view

  copied_are : (bodies : List (Content Cap)) → length bodies ≡ length m.headers
      → ((n : ℕ) → n < length m.headers → option_map present_of (entry_at m.entries n) ≡ Some (held_at bodies n)) → bodies ≡ s.contents
  copied_are bodies each copied =
      ext_get_or content.Free bodies s.contents (each ∙ ap (λ t. length t.headers) view ∙ sym contents_each)
      (λ n within.
      let known : n < length m.headers = omega (arith, within, each) in
      sym (present_is (entry_at m.entries n) (held_at bodies n) (header_at m.headers n).role (newest_body (stored_of disk d) m n)
      (copied n known))
      ∙ sym (content_in (stored_of disk d) m n known) ∙ ap (λ t. held_at t.contents n) view)

  pub all_copied : {E : Type 0} → (headers : List ObjectHeader) → headers ≡ m.headers → (r : Result AllObjects E)
      → IfOk r (λ o. o.headers.items ≡ headers) → IfOk r (λ o. length o.contents.items ≡ length headers)
      → IfOk r (λ o. (n : ℕ) → n < length headers → option_map present_of (entry_at m.entries n) ≡ Some (held_at o.contents.items n))
      → IfOk r (λ o. AreObjectsOf (parts_of disk s) o)
  all_copied headers made (Ok o) same count copied = record {
    headers_are = same ∙ made ∙ ap (λ t. t.headers) view;
    contents = copied_are o.contents.items (count ∙ ap length made) (λ n within. copied n (omega (arith, within, ap length made)));
    each = contents_each;
  }
  all_copied headers made (Err e) same count copied = tt
