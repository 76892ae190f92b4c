-- Numbers are marked before they are written: no object and no frozen frame changes.
use Rattle.object_cache.proofs.Names.{put_at, Kept, Absent, present_at, inl, inr, ℕ, zero, suc, Bool, true, false, true≢false, List, [], length, set, Option}
use Rattle.object_cache.proofs.Names.{option_map, refl, sym, ap, subst, arith, length-set, slice_index_or, Contains, cases_eq, get_or-set_other}
use Rattle.object_cache.proofs.Names.{get_or-set_same, Cap, Frame, ObjectHeader, Content, touched_count, touching, Disk, DurableState, Stored, stored_of}
use Rattle.object_cache.proofs.Names.{maps_same, Entry, Memory, Shared, mark_at, frozen_body, frozen_frame, frozen_at, frozen_state_of, frozen_state_in_memory}
use Rattle.object_cache.proofs.Names.{contents_in, frozen_states_in, StoreState, IsCache, cache_of, frozen_state_at, Image, peeks_started, goes_none}
use Rattle.object_cache.proofs.Names.{IsAnnouncedIn, GoesOnIn}
use Rattle.std.proofs.Common.{◌≡◌, ◌≢◌, ◌⊎◌, ◌<◌, ◌≤◌, ◌∷◌, ◌∙◌}
use Rattle.object_cache.proofs.Marking.{length-touching, set-marked, still_marked}
use Rattle.object_cache.proofs.Caching.{frozen_state_entry}
use Rattle.object_cache.proofs.Objects.{Alike, frozen_alike, keepable_alike, contents_count}

-- a mark is unchanged, or its number is in the list
marked_or : (ts : List Bool) (ns : List ℕ) (k : ℕ) → (mark_at (touching ts ns) k ≡ mark_at ts k) ⊎ Contains ns k
marked_or ts [] k = inl refl
marked_or ts (n ∷ ns) k = elim (cases_eq k n) [
  | inl same ↦ inr (0, omega arith, sym same)
  | inr other ↦ elim (marked_or (set ts n true) ns k) [
    | inl as_it_was ↦ inl (as_it_was ∙ get_or-set_other ts n k true false other)
    | inr has ↦ inr (suc has.0, omega (arith, has.1), has.2)
  ]
]

-- a number in the list is marked afterwards
listed_by : (ts : List Bool) (ns : List ℕ) (i k : ℕ) → i < length ns → slice_index_or ns i k ≡ k → k < length ts →
    mark_at (touching ts ns) k ≡ true
listed_by ts [] i k lt is within = absurd (omega (arith, lt))
listed_by ts (n ∷ ns) zero k lt is within = still_marked (set ts n true) ns k
    (subst (λ j. mark_at (set ts n true) j ≡ true) is (get_or-set_same ts n true false (omega (arith, within, is))))
listed_by ts (n ∷ ns) (suc i) k lt is within = listed_by (set ts n true) ns i k (omega (arith, lt)) is
    (omega (arith, within, length-set ts n true))

pub listed_is_marked : (ts : List Bool) (ns : List ℕ) (k : ℕ) → Contains ns k → k < length ts → mark_at (touching ts ns) k ≡ true
listed_is_marked ts ns k has within = listed_by ts ns has.0 k has.1 has.2 within

-- if all numbers in the list are marked, nothing changes
pub all_marked : (ts : List Bool) (ns : List ℕ) → ((k : ℕ) → Contains ns k → mark_at ts k ≡ true) → touching ts ns ≡ ts
all_marked ts [] marked = refl
all_marked ts (n ∷ ns) marked =
    let here = set-marked ts n (marked n (0, omega arith, refl)) in
    ap (λ us. touching us ns) here ∙ all_marked ts ns (λ k has. marked k (suc has.0, omega (arith, has.1), has.2))

-- marking an object as touched keeps its frozen frame, unless the frozen body is shared with the present one
frozen_marked : (o : Option Entry) (pending touched : Bool) (h : ObjectHeader) (below : Content Cap) (under : Frame) →
    frozen_state_of o pending touched ≢ Shared →
    frozen_frame pending h (frozen_body o true below) under ≡ frozen_frame pending h (frozen_body o touched below) under
frozen_marked o pending touched h below under frozen_state = search arith

frozen_state_marked : (o : Option Entry) (pending touched : Bool) → frozen_state_of o pending touched ≢ Shared →
    frozen_state_of o pending true ≡ frozen_state_of o pending touched
frozen_state_marked o pending touched frozen_state = search arith

abbrev pub marking : List ℕ → Memory → Memory
marking ns m = record m { touched = touching m.touched ns; dirty = touching m.dirty ns }

module _ {s : Stored} {m : Memory} {all : Bool} {left count : ℕ} (is : IsCache all s m left count) (ns : List ℕ)
    (known : (n : ℕ) → Contains ns n → n < length m.headers)
    (apart : (n : ℕ) → Contains ns n → frozen_state_in_memory m n ≢ Shared) where
  touched_here : (k : ℕ) → Contains ns k → mark_at (touching m.touched ns) k ≡ true
  touched_here k has = listed_is_marked m.touched ns k has (let there = known k has in omega (arith, there, is.headers, is.marks))

  dirty_here : (k : ℕ) → Contains ns k → mark_at (touching m.dirty ns) k ≡ true
  dirty_here k has = listed_is_marked m.dirty ns k has (let there = known k has in omega (arith, there, is.headers, is.dirty_marks))

  frozen_stays : (k : ℕ) → frozen_at s (marking ns m) k ≡ frozen_at s m k
  frozen_stays k = search (arith, marked_or, touched_here, frozen_marked)

  pub marked_alike : Alike s m s (marking ns m)
  marked_alike = record { headers = refl; content = λ k. refl; frozen = frozen_stays }

  pub marked_frozen_state : frozen_states_in (marking ns m) ≡ frozen_states_in m
  unfolding frozen_states_in
  marked_frozen_state = search (arith, maps_same, marked_or, touched_here, frozen_state_marked)

  -- a number that isn't marked afterwards wasn't marked before
  unmarked : (ts : List Bool) (k : ℕ) → mark_at (touching ts ns) k ≡ false → mark_at ts k ≡ false
  unmarked ts k none = search (arith, still_marked)

  pub marked_cache : (total : ℕ) → total ≡ touched_count (touching m.touched ns) → total ≤ s.saved.geometry.log →
      IsCache all s (marking ns m) left total
  marked_cache total counted few =
      let marked : (k : ℕ) → mark_at (touching m.dirty ns) k ≡ true → mark_at (touching m.touched ns) k ≡ true =
      λ k dirty. elim (marked_or m.dirty ns k) [
        | inl as_it_was ↦ still_marked m.touched ns k (is.marked k (sym as_it_was ∙ dirty))
        | inr has ↦ touched_here k has
      ] in
      let clean : (k : ℕ) → mark_at (touching m.dirty ns) k ≡ false → mark_at (touching m.touched ns) k ≡ true →
      put_at s.working k ≡ Kept (present_at s (marking ns m) k) = λ k clean touched. elim (marked_or m.touched ns k) [
        | inl as_it_was ↦ is.clean k (unmarked m.dirty k clean) (sym as_it_was ∙ touched)
        | inr has ↦ absurd (true≢false (sym (dirty_here k has) ∙ clean))
      ] in
      let unput : (k : ℕ) → mark_at (touching m.touched ns) k ≡ false → put_at s.working k ≡ Absent =
      λ k untouched. is.unput k (unmarked m.touched k untouched) in
      let unwritten : (k : ℕ) → k < length m.headers → mark_at (touching m.touched ns) k ≡ false →
      present_at s (marking ns m) k ≡ frozen_at s (marking ns m) k =
      λ k below untouched. is.unwritten k below (unmarked m.touched k untouched) ∙ sym (frozen_stays k) in
      search (is, keepable_alike marked_alike is, length-touching m.touched ns ∙ is.marks, length-touching m.dirty ns ∙ is.dirty_marks)

-- facts about a store whose view is s
module _ {D : Type 0} (disk : D → Disk) {d : DurableState D} {m : Memory} {all : Bool} {left count : ℕ} {order : List ℕ} {most_entries : ℕ}
    {s : StoreState D}
    (view : cache_of disk d m left order most_entries ≡ s) (is : IsCache all (stored_of disk d) m left count) (ns : List ℕ)
    (known : (n : ℕ) → Contains ns n → n < length s.headers)
    (apart : (n : ℕ) → Contains ns n → frozen_state_at s.frozen_state n ≢ Shared) where
  known_here : (n : ℕ) → Contains ns n → n < length m.headers
  known_here n has = let there = known n has in omega (arith, there, ap (λ t. length t.headers) view)

  apart_here : (n : ℕ) → Contains ns n → frozen_state_in_memory m n ≢ Shared
  apart_here n has shared = apart n has (ap (λ t. frozen_state_at t.frozen_state n) (sym view) ∙ frozen_state_entry m n (known_here n has)
      ∙ shared)

  pub mark_stands : (total : ℕ) → total ≡ touched_count (touching m.touched ns) → total ≤ (stored_of disk d).saved.geometry.log →
      IsCache all (stored_of disk d) (marking ns m) left total
  mark_stands = marked_cache is ns known_here apart_here

  pub mark_seen : cache_of disk d (marking ns m) left order most_entries ≡ record s
      { touched = touching s.touched ns; dirty = touching s.dirty ns }
  unfolding contents_in
  mark_seen =
      (λ k. record (cache_of disk d m left order most_entries) {
        touched = touching m.touched ns;
        dirty = touching m.dirty ns;
        frozen_state = marked_frozen_state is ns known_here apart_here k;
        frozen = option_map (λ f. record { frames = frozen_alike (marked_alike is ns known_here apart_here) k; size = f.size; left = left })
            (stored_of disk d).frozen;
      }) ∙ ap (λ (t : StoreState D). record t { touched = touching t.touched ns; dirty = touching t.dirty ns }) view

-- ---- numbers are announced: frozen bodies are copied first, and the numbers marked last

module _ {D : Type 0} (disk : D → Disk) where
  module _ (only_now : (d : D) (c : Image) → (disk d).left_since (disk d).moment c → (disk d).may_leave c) where
    pub mark_continues : (s : StoreState D) (ts ds : List Bool) → touched_count s.touched ≤ touched_count ts →
        GoesOnIn disk s (record s { touched = ts; dirty = ds })
    mark_continues s ts ds grows = search (arith, goes_none, peeks_started)

module _ {D : Type 0} (disk : D → Disk) {d : DurableState D} {m : Memory} {all : Bool} {left count : ℕ} {order : List ℕ} {most_entries : ℕ}
    {s : StoreState D}
    (view : cache_of disk d m left order most_entries ≡ s) (is : IsCache all (stored_of disk d) m left count) where
  -- a marked number is announced
  pub marked_announced : (ns : List ℕ) (n : ℕ) → n < length s.headers → Contains ns n →
      IsAnnouncedIn (record s { touched = touching s.touched ns; dirty = touching s.dirty ns }) n
  marked_announced ns n known has = search (arith, contents_count, listed_is_marked)

  -- if all numbers in the list are dirty, they are announced already
  module _ (ns : List ℕ) (known : (n : ℕ) → Contains ns n → n < length s.headers) (same : touching m.dirty ns ≡ m.dirty) where
    dirty_already : (n : ℕ) → Contains ns n → mark_at m.dirty n ≡ true
    dirty_already n has =
        ap (λ ts. mark_at ts n) (sym same)
        ∙ listed_is_marked m.dirty ns n has (let there = known n has in omega
        (arith, there, is.headers, is.dirty_marks, ap (λ t. length t.headers) view))

    pub ready_touched : touching s.touched ns ≡ s.touched
    ready_touched = subst (λ t. touching t.touched ns ≡ t.touched) view (all_marked m.touched ns
        (λ n has. is.marked n (dirty_already n has)))

    pub ready_announced : (n : ℕ) → Contains ns n → IsAnnouncedIn s n
    ready_announced n has = search (arith, known n has, ap (λ t. mark_at t.dirty n) (sym view) ∙ dirty_already n has, contents_count)
