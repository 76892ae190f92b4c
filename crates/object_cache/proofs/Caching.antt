-- Adding or dropping a cache entry changes no object and no frozen frame.
use Rattle.object_cache.proofs.Names.{ℕ, Bool, true, false, List, length, set, Option, Some, None, option_map, refl, sym, ap, arith, length-set, ne_eqb}
use Rattle.object_cache.proofs.Names.{get_or-set_same, get_or-set_other, map-set, get_or-map-range_with_len, none-some, same_Some, Cap, Content, Role}
use Rattle.object_cache.proofs.Names.{header_at, held_at, Disk, put_at, DurableState, Stored, below_at, stored_of, maps_same, map_set, Entry, entry_at}
use Rattle.object_cache.proofs.Names.{new_entry, is_some, Memory, FrozenState, Nothing, mark_at, masked, in_staging, content_at, newest_body, below_body}
use Rattle.object_cache.proofs.Names.{apart_body, frozen_body, frozen_frame, frozen_at, frozen_state_of, frozen_state_in_memory, frozen_states_in, StoreState}
use Rattle.object_cache.proofs.Names.{IsCache, IsFetchedIn, cache_of, is_kept, frozen_state_by, frozen_state_at, cached_at, cached_in, with_cached, without}
use Rattle.object_cache.proofs.Names.{with_entry, Shared, Apart, IsSome, true≢false}
use Rattle.std.proofs.Common.{◌≡◌, ◌≢◌, ◌⊎◌, ◌<◌, ◌∷◌, ◌∙◌}
use Rattle.object_cache.proofs.Objects.{Alike, cached_entry, cached_stay, clean_alike, content_in, contents_alike, entry_found, fetched_known, frozen_alike}
use Rattle.object_cache.proofs.Objects.{of_each, keepable_alike, unwritten_alike, with_objects}
use Rattle.object_cache.proofs.Outcomes.{IsSeenAs}
use Rattle.model.specs.declared.object.Role.TheVariants as role

-- entry n changes so that neither the object nor its frozen frame changes
pub record Recaches (s : Stored) (m : Memory) (es : List (Option Entry)) (n : ℕ) : Type 0 where
  pub count : length es ≡ length m.entries
  pub entries : (k : ℕ) → k ≢ n → entry_at es k ≡ entry_at m.entries k
  pub content : content_at s (with_objects m m.headers es) n ≡ content_at s m n
  pub frozen : frozen_at s (with_objects m m.headers es) n ≡ frozen_at s m n
  pub apart : (e : Entry) → entry_at es n ≡ Some e → (e.kept ≡ None) ⊎ (mark_at m.pending n ≡ true)
  pub freed : entry_at es n ≡ None → mark_at m.pending n ≡ true → (header_at m.frozen_headers n).role ≡ role.Free →
      (is_kept (put_at s.working n) ≡ true) ⊎ ((header_at m.headers n).role ≡ role.Free)

module _ {s : Stored} {m : Memory} {es : List (Option Entry)} {n : ℕ} (change : Recaches s m es n) where
  abbrev cached : Memory
  cached = with_objects m m.headers es

  content_stays : (k : ℕ) → content_at s cached k ≡ content_at s m k
  content_stays = of_each n change.content (λ k other. rw (change.entries k other))

  frozen_stays : (k : ℕ) → frozen_at s cached k ≡ frozen_at s m k
  frozen_stays = of_each n change.frozen (λ k other. rw (change.entries k other))

  pub cached_alike : Alike s m s (with_objects m m.headers es)
  cached_alike = record { headers = refl; content = content_stays; frozen = frozen_stays }

  pub frozen_state_changed : (x : FrozenState) → n < length m.headers → frozen_state_in_memory cached n ≡ x →
      frozen_states_in cached ≡ set (frozen_states_in m) n x
  unfolding frozen_states_in
  frozen_state_changed x within here = search (arith, map_set)

  pub frozen_state_stay : frozen_state_in_memory cached n ≡ frozen_state_in_memory m n → frozen_states_in cached ≡ frozen_states_in m
  unfolding frozen_states_in
  frozen_state_stay here = search (arith, maps_same, of_each)

  pub cached_cache : {all : Bool} → (all ≡ true → IsSome (entry_at es n)) → {left count : ℕ} → IsCache all s m left count →
      IsCache all s cached left count
  cached_cache {all} some {left} is =
      let whole : all ≡ true → (k : ℕ) → k < length m.headers → IsSome (entry_at es k) =
      λ is_all. of_each n (λ within. some is_all) (λ k other. rw (change.entries k other) (is.whole is_all k)) in
      let apart : (k : ℕ) (e : Entry) → entry_at es k ≡ Some e → (e.kept ≡ None) ⊎ (mark_at m.pending k ≡ true) =
      of_each n change.apart (λ k other. rw (change.entries k other) (is.apart k)) in
      let freed : (k : ℕ) → entry_at es k ≡ None → mark_at m.pending k ≡ true → (header_at m.frozen_headers k).role ≡ role.Free →
      (is_kept (put_at s.working k) ≡ true) ⊎ ((header_at m.headers k).role ≡ role.Free) =
      of_each n change.freed (λ k other. rw (change.entries k other) (is.freed k)) in
      search (is, clean_alike cached_alike is, unwritten_alike cached_alike is, keepable_alike cached_alike is, change.count ∙ is.entries)

-- ---- an entry is dropped

-- if the frozen state of an entry is `Nothing`, the object isn't pending, or it was written since the freeze without a copy
pub nothing_frozen_state : (e : Entry) (pending touched : Bool) → frozen_state_of (Some e) pending touched ≡ Nothing →
    (pending ≡ false) ⊎ ((pending ≡ true) × (touched ≡ true) × (e.kept ≡ None))
nothing_frozen_state e pending touched is = search arith

-- if a number isn't pending, the staging buffer doesn't have its body
pub no_staging : {s : Stored} {m : Memory} {all : Bool} {left count : ℕ} → IsCache all s m left count → (n : ℕ) (c : Content Cap) →
    mark_at m.pending n ≡ false → in_staging m.staging n c ≡ c
no_staging {s} {m} {all} {left} {count} is n c not_pending = search (arith, ne_eqb)

module _ {s : Stored} {m : Memory} {all : Bool} {left count : ℕ} (is : IsCache all s m left count) (n : ℕ) (within : n < length m.headers)
    (e : Entry)
    (at : entry_at m.entries n ≡ Some e)
    (clean : mark_at m.dirty n ≡ false) (frozen_state : frozen_state_in_memory m n ≡ Nothing)
    (masks : masked (header_at m.headers n).role (content_at s m n) ≡ content_at s m n) where
  abbrev dropped : List (Option Entry)
  dropped = set m.entries n None

  entry_within : n < length m.entries
  entry_within = omega (arith, within, is.headers, is.entries)

  none_now : entry_at dropped n ≡ None
  none_now = get_or-set_same m.entries n None None entry_within

  frozen_state_here : frozen_state_of (Some e) (mark_at m.pending n) (mark_at m.touched n) ≡ Nothing
  frozen_state_here = ap (λ o. frozen_state_of o (mark_at m.pending n) (mark_at m.touched n)) (sym at) ∙ frozen_state

  -- the newest body outside the entries is the one in the dropped entry
  newest_is : (t : Bool) → mark_at m.touched n ≡ t → newest_body s m n ≡ content_at s m n
  newest_is t touched = search (arith, nothing_frozen_state, frozen_state_here, no_staging)

  frozen_is : frozen_at s (with_objects m m.headers dropped) n ≡ frozen_at s m n
  frozen_is = search (arith, none_now, nothing_frozen_state, frozen_state_here)

  pub drops : Recaches s m dropped n
  drops = search (arith, length-set, get_or-set_other, none_now, newest_is, frozen_is, none-some, nothing_frozen_state, frozen_state_here)

  pub frozen_state_dropped : frozen_state_in_memory (with_objects m m.headers dropped) n ≡ frozen_state_in_memory m n
  frozen_state_dropped = ap (λ o. frozen_state_of o (mark_at m.pending n) (mark_at m.touched n)) none_now ∙ sym frozen_state

module _ {D : Type 0} (disk : D → Disk) (d : DurableState D) {m : Memory} (left : ℕ) (order : List ℕ) (most_entries : ℕ)
    {es : List (Option Entry)} {n : ℕ}
    (change : Recaches (stored_of disk d) m es n) where
  -- dropping or adding an entry changes only which numbers have entries, and their frozen states
  pub seen_cached : {rs : List Bool} {x : List FrozenState} → cached_in es ≡ rs → frozen_states_in (with_objects m m.headers es) ≡ x →
      cache_of disk d (with_objects m m.headers es) left order most_entries ≡ record
      (cache_of disk d m left order most_entries) { cached = rs; frozen_state = x }
  seen_cached cached frozen_state = λ k. record (cache_of disk d m left order most_entries) {
    contents = contents_alike (cached_alike change) k;
    cached = cached k;
    frozen_state = frozen_state k;
    frozen = option_map (λ f. record { frames = frozen_alike (cached_alike change) k; size = f.size; left = left })
        (stored_of disk d).frozen;
  }

pub cached_set : (es : List (Option Entry)) (n : ℕ) (o : Option Entry) → cached_in (set es n o) ≡ set (cached_in es) n (is_some o)
unfolding cached_in
cached_set es n o = map-set is_some es n o

pub frozen_state_entry : (m : Memory) (n : ℕ) → n < length m.headers → frozen_state_at (frozen_states_in m) n ≡ frozen_state_in_memory m n
unfolding frozen_states_in
frozen_state_entry m n within = get_or-map-range_with_len (frozen_state_in_memory m) 0 (length m.headers) n n Nothing within (omega arith)

-- facts about a store whose view is s
module _ {D : Type 0} (disk : D → Disk) {d : DurableState D} {m : Memory} {all : Bool} {left count : ℕ} {order : List ℕ} {most_entries : ℕ}
    {s : StoreState D}
    (view : cache_of disk d m left order most_entries ≡ s) (is : IsCache all (stored_of disk d) m left count) {n : ℕ}
    (fetched : IsFetchedIn s n)
    (clean : mark_at s.dirty n ≡ false)
    (frozen_state : frozen_state_at s.frozen_state n ≡ Nothing) (masks : masked (header_at s.headers n).role (held_at s.contents n)
    ≡ held_at s.contents n)
    (some : all ≡ false) where
  in_table : n < length m.headers
  in_table = omega (arith, fetched.header, ap (λ t. length t.headers) view)

  holds : content_at (stored_of disk d) m n ≡ held_at s.contents n
  holds = sym (content_in (stored_of disk d) m n in_table) ∙ ap (λ t. held_at t.contents n) view

  masks_here : masked (header_at m.headers n).role (content_at (stored_of disk d) m n) ≡ content_at (stored_of disk d) m n
  masks_here = ap (masked (header_at m.headers n).role) holds ∙ ap (λ t. masked (header_at t.headers n).role (held_at s.contents n)) view
      ∙ masks ∙ sym holds

  entry_here : (e : Entry) × (entry_at m.entries n ≡ Some e)
  entry_here = entry_found disk view is fetched

  clean_here : mark_at m.dirty n ≡ false
  clean_here = ap (λ t. mark_at t.dirty n) view ∙ clean

  state_here : frozen_state_in_memory m n ≡ Nothing
  state_here = sym (frozen_state_entry m n in_table) ∙ ap (λ t. frozen_state_at t.frozen_state n) view ∙ frozen_state

  drops_here : Recaches (stored_of disk d) m (set m.entries n None) n
  drops_here = drops is n in_table entry_here.0 entry_here.1 clean_here state_here masks_here

  pub dropped_next : IsSeenAs all disk d (with_objects m m.headers (set m.entries n None)) left count (without n order) most_entries
      (record s { cached = set s.cached n false; order = without n s.order })
  dropped_next = search (
    cached_cache drops_here (λ is_all. absurd (true≢false (sym is_all ∙ some))) is,
    seen_cached disk d left (without n order) most_entries drops_here (cached_set m.entries n None) (frozen_state_stay drops_here
        (frozen_state_dropped is n in_table entry_here.0 entry_here.1 clean_here
        state_here masks_here)) ∙ ap (λ (t : StoreState D). record t { cached = set t.cached n false; order = without n t.order }) view,
  )

-- ---- an entry is added

masked_twice : (r : Role) (c : Content Cap) → masked r (masked r c) ≡ masked r c
masked_twice other c = search arith

module _ {s : Stored} {m : Memory} {all : Bool} {left count : ℕ} (is : IsCache all s m left count) (number : ℕ) (c : Content Cap)
    (within : number < length m.headers)
    (none : entry_at m.entries number ≡ None)
    (present : c ≡ content_at s m number) where
  abbrev e : Entry
  e = new_entry c

  abbrev more : List (Option Entry)
  more = set m.entries number (Some e)

  some_now : entry_at more number ≡ Some e
  some_now = get_or-set_same m.entries number (Some e) None (omega (arith, within, is.headers, is.entries))

  -- if a number is pending and untouched, the body that was read is its frozen body
  as_frozen : mark_at m.pending number ≡ true → mark_at m.touched number ≡ false →
      c ≡ masked (header_at m.frozen_headers number).role (below_body s m number)
  as_frozen pending untouched = search arith

  -- the frozen frame is the same with the new entry
  frozen_by : (p t : Bool) → mark_at m.pending number ≡ p → mark_at m.touched number ≡ t →
      frozen_frame p (header_at m.frozen_headers number) (apart_body None t c (below_body s m number)) (below_at s number)
      ≡ frozen_frame p (header_at m.frozen_headers number) (below_body s m number) (below_at s number)
  frozen_by p t pending touched = search (arith, as_frozen, masked_twice)

  pub cached_new : Recaches s m more number
  cached_new = search (arith, length-set, get_or-set_other, some_now, frozen_by, same_Some, none-some)

  pub frozen_state_new : frozen_state_in_memory (with_objects m m.headers more) number ≡ frozen_state_by (mark_at m.pending number) false
      (mark_at m.touched number)
  frozen_state_new = ap (λ o. frozen_state_of o (mark_at m.pending number) (mark_at m.touched number)) some_now

no_entry_by : (o : Option Entry) → is_some o ≡ false → o ≡ None
no_entry_by o is = search arith

-- facts about a store whose view is s
module _ {D : Type 0} (disk : D → Disk) {d : DurableState D} {m : Memory} {all : Bool} {left count : ℕ} {order : List ℕ} {most_entries : ℕ}
    {s : StoreState D}
    (view : cache_of disk d m left order most_entries ≡ s) (is : IsCache all (stored_of disk d) m left count) where
  -- a number that isn't cached has no entry
  pub no_entry : (n : ℕ) → cached_at s.cached n ≡ false → entry_at m.entries n ≡ None
  no_entry n uncached = no_entry_by (entry_at m.entries n) (sym (cached_entry m.entries n) ∙ ap (λ t. cached_at t.cached n) view ∙ uncached)

  module _ (n : ℕ) (c : Content Cap) (known : n < length s.headers) (uncached : cached_at s.cached n ≡ false)
      (read : c ≡ held_at s.contents n) where
    there : n < length m.headers
    there = omega (arith, known, ap (λ t. length t.headers) view)

    present_there : c ≡ content_at (stored_of disk d) m n
    present_there = read ∙ ap (λ t. held_at t.contents n) (sym view) ∙ content_in (stored_of disk d) m n there

    some_there : entry_at (set m.entries n (Some (new_entry c))) n ≡ Some (new_entry c)
    some_there = some_now is n c there (no_entry n uncached) present_there

    new_here : Recaches (stored_of disk d) m (set m.entries n (Some (new_entry c))) n
    new_here = cached_new is n c there (no_entry n uncached) present_there

    pub cached_next : IsSeenAs all disk d (with_objects m m.headers (set m.entries n (Some (new_entry c)))) left count (n ∷ order)
        most_entries (with_cached n s)
    cached_next = search (
      cached_cache new_here (λ is_all. ap is_some some_there) is,
      seen_cached disk d left (n ∷ order) most_entries new_here (cached_set m.entries n (Some (new_entry c)))
          (frozen_state_changed new_here (frozen_state_by (mark_at m.pending n) false (mark_at m.touched n)) there
          (frozen_state_new is n c there (no_entry n uncached) present_there)) ∙ ap (with_cached n) view,
    )

-- ---- a frozen body is copied, so that the present one can change

-- if the frozen state of an entry is `Shared`, the object is pending, and wasn't written since the freeze
shared_frozen_state : (e : Entry) (pending touched : Bool) → frozen_state_of (Some e) pending touched ≡ Shared →
    (pending ≡ true) × (touched ≡ false) × (e.kept ≡ None)
shared_frozen_state e pending touched is = search arith

abbrev pub keeping : Entry → Entry
keeping e = record e { kept = Some e.present }

module _ (s : Stored) (m : Memory) (n : ℕ) (within : n < length m.entries) (e : Entry) (at : entry_at m.entries n ≡ Some e)
    (shared : frozen_state_in_memory m n ≡ Shared) where
  abbrev apart_entries : List (Option Entry)
  apart_entries = with_entry (keeping) n m.entries

  facts : (mark_at m.pending n ≡ true) × (mark_at m.touched n ≡ false) × (e.kept ≡ None)
  facts = search (arith, shared_frozen_state)

  now : entry_at apart_entries n ≡ Some (keeping e)
  now = get_or-set_same m.entries n (option_map (keeping) (entry_at m.entries n)) None within ∙ ap (option_map (keeping)) at

  frozen_same : frozen_body (entry_at apart_entries n) (mark_at m.touched n) (below_body s m n)
      ≡ frozen_body (entry_at m.entries n) (mark_at m.touched n) (below_body s m n)
  frozen_same = search (arith, now, facts)

  pub keeps_apart : Recaches s m apart_entries n
  keeps_apart = search (arith, length-set, get_or-set_other, now, frozen_same, facts, none-some)

  pub frozen_state_apart : frozen_state_in_memory (with_objects m m.headers apart_entries) n ≡ Apart
  frozen_state_apart = rw (now, facts.0)

-- facts about a store whose view is s
module _ {D : Type 0} (disk : D → Disk) {d : DurableState D} {m : Memory} {all : Bool} {left count : ℕ} {order : List ℕ} {most_entries : ℕ}
    {s : StoreState D}
    (view : cache_of disk d m left order most_entries ≡ s) (is : IsCache all (stored_of disk d) m left count) {n : ℕ}
    (fetched : IsFetchedIn s n)
    (shared : frozen_state_at s.frozen_state n ≡ Shared) where
  known_here : n < length m.headers
  known_here = fetched_known disk view is fetched

  within_shared : n < length m.entries
  within_shared = omega (arith, known_here, is.headers, is.entries)

  entry_shared : (e : Entry) × (entry_at m.entries n ≡ Some e)
  entry_shared = entry_found disk view is fetched

  shared_here : frozen_state_in_memory m n ≡ Shared
  shared_here = sym (frozen_state_entry m n known_here) ∙ ap (λ t. frozen_state_at t.frozen_state n) view ∙ shared

  recaches : Recaches (stored_of disk d) m (with_entry keeping n m.entries) n
  recaches = keeps_apart (stored_of disk d) m n within_shared entry_shared.0 entry_shared.1 shared_here

  pub apart_next : IsSeenAs all disk d (with_objects m m.headers (with_entry keeping n m.entries)) left count order most_entries
      (record s { frozen_state = set s.frozen_state n Apart })
  apart_next = search (
    cached_cache recaches (λ is_all. ap is_some (now (stored_of disk d) m n within_shared entry_shared.0 entry_shared.1 shared_here)) is,
    seen_cached disk d left order most_entries recaches (cached_stay keeping n m.entries) (frozen_state_changed recaches Apart known_here
        (frozen_state_apart (stored_of disk d) m n within_shared entry_shared.0 entry_shared.1 shared_here))
        ∙ ap (λ (t : StoreState D). record t { frozen_state = set t.frozen_state n Apart }) view,
  )
