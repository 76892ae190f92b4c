-- Migrations and commits: no present object changes.
use Rattle.object_cache.proofs.Names.{ℕ, Bool, true, false, cond, List, [], length, map, Option, Some, None, option_map, Result, Ok, Err, refl, sym, ap, subst}
use Rattle.object_cache.proofs.Names.{arith, count_by, range_with_len, cases_lt, length-map, same_lists, get_or_past, length-map-range_with_len}
use Rattle.object_cache.proofs.Names.{get_or-map-range_with_len, sum_by-cons, none-some, same_Some, frame_at, Disk, Put, Absent, Broken, Kept, put_at, put_or}
use Rattle.object_cache.proofs.Names.{overlaid, kept_count, sum_of, SavedFrames, LeavesEither, LeavesOneOf, home_saved, DurableState, MayCommit, committed}
use Rattle.object_cache.proofs.Names.{moved, next_saved, whole, on_snapshots, puts, FrozenPuts, Stored, below_at, left_of, stored_of, maps_same, FrozenFrames}
use Rattle.object_cache.proofs.Names.{Memory, mark_at, content_at, frozen_at, get_or-map, get_or_default, contents_in, frozen_in, StoreState, IsCache}
use Rattle.object_cache.proofs.Names.{snapshots_of, cache_of, frozen_seen, is_kept, OnErr}
use Rattle.std.proofs.Common.{◌≡◌, ◌-◌, ◌≤◌, ◌<◌, ◌||◌, ◌∷◌, ◌∙◌, OnOk}
use Rattle.std.specs.Prelude.{◌==◌}
use Rattle.object_cache.proofs.Outcomes.{IsSeenAs}
use Rattle.object_cache.proofs.Marking.{one_fewer}
use Rattle.object_cache.proofs.Turns.{running_in}
use Rattle.object_cache.proofs.Objects.{Alike, contents_alike, clean_alike, unwritten_alike, stored_next}

-- ---- saved objects are copied home

abbrev pub saved_with : Bool → SavedFrames → SavedFrames
saved_with b saved = cond b (home_saved saved) saved

abbrev pub stored_with : Stored → Bool → ℕ → Stored
stored_with s b k = record { working = s.working; frozen = s.frozen; saved = saved_with b s.saved; to_move = k }

module _ (s : Stored) (m : Memory) where
  pub contents_home : (b : Bool) (k : ℕ) → contents_in (stored_with s b k) m ≡ contents_in s m
  unfolding contents_in
  contents_home b k = search arith

  pub frozen_home : (b : Bool) (k : ℕ) → frozen_in (stored_with s b k) m ≡ frozen_in s m
  unfolding frozen_in
  frozen_home b k = search arith

  -- the invariant doesn't depend on the saved generation, entries and age
  numbered_stands : {all : Bool} (left count generation entries age k : ℕ) → IsCache all s m left count →
      IsCache all (record {
        working = s.working;
        frozen = s.frozen;
        saved = record { geometry = s.saved.geometry; frames = s.saved.frames; generation = generation; entries = entries; age = age };
        to_move = k;
      }) m left
      count
  unfolding frozen_in
  numbered_stands left count generation entries age k is = search

  pub home_stands : {all : Bool} (left count : ℕ) (b : Bool) (k : ℕ) → IsCache all s m left count →
      IsCache all (stored_with s b k) m left count
  home_stands left count true k is = numbered_stands left count s.saved.generation 0 s.saved.age k is
  home_stands left count false k is = numbered_stands left count s.saved.generation s.saved.entries s.saved.age k is

-- facts about a store whose view is s
module _ {D : Type 0} (disk : D → Disk) {d : DurableState D} {m : Memory} {all : Bool} {left count : ℕ} {order : List ℕ} {most_entries : ℕ}
    {s : StoreState D}
    (view : cache_of disk d m left order most_entries ≡ s) (is : IsCache all (stored_of disk d) m left count) (new : DurableState D)
    (amount : ℕ) where
  home_next : (b : Bool) (k : ℕ) → stored_of disk new ≡ stored_with (stored_of disk d) b k →
      IsSeenAs all disk new m left count order most_entries (record s { durable = new })
  home_next b k put = search (arith, stored_next, home_stands, contents_home, frozen_home)

  pub moved_next : {T E : Type 0} (r : Result T E) → OnOk r (stored_of disk new ≡ on_snapshots (moved amount) (stored_of disk d)) →
      OnErr r ((k : ℕ) × (k ≤ (stored_of disk d).to_move) × (stored_of disk new ≡ record (stored_of disk d) { to_move = k })) →
      IsSeenAs all disk new m left count order most_entries (record s { durable = new }) ×
      OnOk r (snapshots_of disk (cache_of disk new m left order most_entries) ≡ moved amount (snapshots_of disk s))
  moved_next (Ok x) done left_over =
      let now = home_next ((stored_of disk d).to_move - amount == 0) ((stored_of disk d).to_move - amount) done in (
        now,
        ap (snapshots_of disk) now.view
            ∙ ap (λ t. record { frozen = s.frozen; saved = t.saved; to_move = t.to_move }) done
            ∙ ap (λ t. moved amount
            (record { frozen = s.frozen; saved = (stored_of disk t.durable).saved; to_move = (stored_of disk t.durable).to_move })) view,
      )
  moved_next (Err e) done left_over = (home_next false left_over.0 left_over.2, tt)

-- ---- the frozen state is committed

kept_marks : (ps : List Put) → count_by (λ b. b) (map is_kept ps) ≡ kept_count ps
unfolding sum_of
kept_marks [] = refl
kept_marks (Absent ∷ ps) = let total = sum_by-cons (λ b. cond b 1 0) false (map is_kept ps) in let rest = kept_marks ps in
    omega (arith, total, rest)
kept_marks (Broken ∷ ps) = let total = sum_by-cons (λ b. cond b 1 0) false (map is_kept ps) in let rest = kept_marks ps in
    omega (arith, total, rest)
kept_marks (Kept f ∷ ps) = let total = sum_by-cons (λ b. cond b 1 0) true (map is_kept ps) in let rest = kept_marks ps in
    omega (arith, total, rest)

not_marked : (ts : List Bool) (n : ℕ) → count_by (λ b. b) ts ≡ 0 → mark_at ts n ≡ false
not_marked ts n none = go (mark_at ts n) refl
  where
    go : (b : Bool) → mark_at ts n ≡ b → b ≡ false
    go true at = let some = one_fewer ts n at in absurd (omega (arith, none, some))
    go false at = refl

module _ {s : Stored} {m : Memory} {all : Bool} {count : ℕ} (is : IsCache all s m 0 count) (f : FrozenPuts) (f_is : s.frozen ≡ Some f) where
  pub none_pending : (n : ℕ) → mark_at m.pending n ≡ false
  none_pending n = let few = (is.running f f_is).few in not_marked m.pending n (omega (arith, few))

  pub all_put : left_of f ≡ 0
  all_put =
      let are = is.running f f_is in
      let same : map (λ n. mark_at m.pending n || is_kept (put_at f.put n)) (range_with_len 0 (length m.pending)) ≡ map is_kept f.put =
      same_lists (map (λ n. mark_at m.pending n || is_kept (put_at f.put n)) (range_with_len 0 (length m.pending))) (map is_kept f.put)
      (length-map-range_with_len (λ n. mark_at m.pending n || is_kept (put_at f.put n)) 0 (length m.pending) ∙ sym are.each
      ∙ sym (length-map f.put is_kept))
      (λ i b lt.
      let inside : i < length m.pending = omega
      (arith, lt, length-map-range_with_len (λ n. mark_at m.pending n || is_kept (put_at f.put n)) 0 (length m.pending)) in
      get_or-map-range_with_len (λ n. mark_at m.pending n || is_kept (put_at f.put n)) 0 (length m.pending) i i b inside (omega arith)
      ∙ ap (λ p. p || is_kept (put_at f.put i)) (none_pending i)
      ∙ sym (get_or_default (map is_kept f.put) i b false (omega (arith, inside, are.each, length-map f.put is_kept))
      ∙ get_or-map is_kept f.put i Absent)) in
      let counted = sym (ap (count_by (λ b. b)) same) ∙ are.size in
      omega (arith, counted, kept_marks f.put)

  -- if nothing is pending, the frozen frames are the written ones, and the saved ones where none was written
  pub frozen_overlaid : frozen_in s m ≡ overlaid f.put s.saved.frames
  unfolding frozen_in overlaid
  frozen_overlaid = search (arith, maps_same, none_pending)

  module _ (age : ℕ) where
    abbrev after : Stored
    after = on_snapshots (committed puts age f) s

    length_over : length (overlaid f.put s.saved.frames) ≡ length s.saved.frames
    unfolding overlaid
    length_over = length-map-range_with_len (λ n. put_or (put_at f.put n) (frame_at s.saved.frames n)) 0 (length s.saved.frames)

    below_stays : (n : ℕ) → below_at after n ≡ below_at s n
    unfolding overlaid
    below_stays n = search (arith, cases_lt, get_or-map-range_with_len, get_or_past, length_over)

    content_stays : (n : ℕ) → content_at after m n ≡ content_at s m n
    content_stays n = rw (below_stays n)

    frozen_stays : (n : ℕ) → frozen_at after m n ≡ frozen_at s m n
    frozen_stays n = rw (below_stays n)

    pub saved_alike : Alike s m (on_snapshots (committed puts age f) s) m
    saved_alike = record { headers = refl; content = content_stays; frozen = frozen_stays }

    pub saved_stands : IsCache all after m 0 count
    saved_stands = search (arith, none-some, clean_alike, saved_alike, unwritten_alike, length_over, none_pending)

-- facts about a store whose view is s
module _ {D : Type 0} (disk : D → Disk) {d : DurableState D} {m : Memory} {all : Bool} {left count : ℕ} {order : List ℕ} {most_entries : ℕ}
    {s : StoreState D}
    (view : cache_of disk d m left order most_entries ≡ s) (is : IsCache all (stored_of disk d) m left count) (f : FrozenFrames)
    (running : s.frozen ≡ Some f)
    (stable : f.left ≡ 0) where
  found : (h : FrozenPuts) × ((stored_of disk d).frozen ≡ Some h) × (record
      { frames = frozen_in (stored_of disk d) m; size = h.size; left = left } ≡ f)
  found = running_in (frozen_in (stored_of disk d) m) left (stored_of disk d).frozen f (ap (λ t. t.frozen) view ∙ running)

  none_left : left ≡ 0
  none_left = ap (λ g. g.left) found.2 ∙ stable

  stands_here : IsCache all (stored_of disk d) m 0 count
  stands_here = subst (λ k. IsCache all (stored_of disk d) m k count) none_left is

  frames_are : frozen_in (stored_of disk d) m ≡ f.frames
  frames_are = ap (λ g. g.frames) found.2

  overlaid_are : (h : FrozenPuts) → (stored_of disk d).frozen ≡ Some h → overlaid h.put (stored_of disk d).saved.frames ≡ f.frames
  overlaid_are h at = sym (frozen_overlaid stands_here h at) ∙ frames_are

  saved_here : (stored_of disk d).saved ≡ (stored_of disk s.durable).saved
  saved_here = ap (λ t. (stored_of disk t.durable).saved) view

  pub save_left : option_map left_of (stored_of disk d).frozen ≡ Some 0
  save_left = ap (option_map left_of) found.1 ∙ ap Some (all_put stands_here found.0 found.1)

  module _ (age : ℕ) where
    pub save_ready : MayCommit whole age f (stored_of disk s.durable).saved → (h : FrozenPuts) → (stored_of disk d).frozen ≡ Some h →
        MayCommit puts age h (stored_of disk d).saved
    save_ready may h at = search (arith, saved_here, overlaid_are)

    next_are : (h : FrozenPuts) → (stored_of disk d).frozen ≡ Some h → next_saved puts age h (stored_of disk d).saved
        ≡ next_saved whole age f (stored_of disk s.durable).saved
    next_are h at = search (arith, same_Some, found, overlaid_are, saved_here)

    pub save_moments : (old new : Disk) →
        LeavesOneOf old new (stored_of disk d).saved (option_map (λ h. next_saved puts age h (stored_of disk d).saved)
        (stored_of disk d).frozen)
        →
        LeavesEither old new (stored_of disk s.durable).saved (next_saved whole age f (stored_of disk s.durable).saved)
    save_moments old new moments = search (arith, next_are, found, saved_here)

    pub save_next : (new : DurableState D) {T E : Type 0} (r : Result T E) →
        ((h : FrozenPuts) → (stored_of disk d).frozen ≡ Some h → OnOk r (stored_of disk new
        ≡ on_snapshots (committed puts age h) (stored_of disk d))) → OnErr r (stored_of disk new ≡ stored_of disk d) →
        IsSeenAs all disk new m left count order most_entries (record s { durable = new; frozen = frozen_seen (stored_of disk new) m left })
        ×
        OnOk r (snapshots_of disk (cache_of disk new m left order most_entries) ≡ committed whole age f (snapshots_of disk s))
    save_next new (Ok x) done undone =
        let now = done found.0 found.1 in
        let contents = ap (λ t. contents_in t m) now ∙ contents_alike (saved_alike stands_here found.0 found.1 age)
        ∙ ap (λ t. t.contents) view in (
          record {
            is = subst (λ t. IsCache all t m left count) (sym now)
                (subst (λ k. IsCache all (on_snapshots (committed puts age found.0) (stored_of disk d)) m k count) (sym none_left)
                (saved_stands stands_here found.0 found.1 age));
            view = λ k. record (view k) { durable = new; contents = contents k; frozen = frozen_seen (stored_of disk new) m left };
          },
          ap (λ t. record { frozen = frozen_seen t m left; saved = t.saved; to_move = t.to_move }) now
              ∙ (λ k. record { frozen = None; saved = next_are found.0 found.1 k; to_move = (found.2 k).size }),
        )
    save_next new (Err e) done undone =
        let contents = ap (λ t. contents_in t m) undone ∙ ap (λ t. t.contents) view in (
          record {
            is = subst (λ t. IsCache all t m left count) (sym undone) is;
            view = λ k. record (view k) { durable = new; contents = contents k; frozen = frozen_seen (stored_of disk new) m left };
          },
          tt,
        )

-- if no frozen frame is left to write, there is a frozen checkpoint, and it may be committed
pub ready_of : (o : Option FrozenFrames) (saved : SavedFrames) (age k : ℕ) → option_map (λ f. f.left) o ≡ Some k → k ≡ 0 →
    ((f : FrozenFrames) → o ≡ Some f → MayCommit whole age f saved) → (f : FrozenFrames) × (o ≡ Some f) × (f.left ≡ 0)
    × MayCommit whole age f saved
ready_of None saved age k is none may = absurd (none-some k is)
ready_of (Some f) saved age k is none may = (f, refl, same_Some f.left k is ∙ none, may f refl)
