-- The frozen states of numbers: which body an entry has for a frozen frame that isn't in the log.
use Rattle.object_cache.proofs.Names.{ℕ, zero, suc, Bool, true, false, List, [], length, set, take, Option, Some, None, IsSome, is_some, option_map, sym, ap}
use Rattle.object_cache.proofs.Names.{arith, slice_get, get_or-set_other, cases_eq, none-some, same_Some, Cap, Content, is_member, Disk, DurableState}
use Rattle.object_cache.proofs.Names.{stored_of, entry_at, kept_of, frozen_state_by, Memory, Nothing, mark_at, frozen_state_of, AreOrdered, used_longest_ago}
use Rattle.object_cache.proofs.Names.{without, StoreState, IsCache, IsFetchedIn, cache_of, frozen_state_at, cached_at, take_all, length_without, front_stays}
use Rattle.object_cache.proofs.Names.{listed_member, on_device, without_cached, Result, OnOk, some_within}
use Rattle.std.proofs.Common.{◌≡◌, ◌+◌, ◌-◌, ◌<◌, ◌≤◌, ◌∷◌, ◌∙◌}
use Rattle.object_cache.proofs.Marking.{set_there}
use Rattle.object_cache.proofs.Objects.{cached_entry, contents_count}
use Rattle.object_cache.proofs.Caching.{frozen_state_entry}

pub still_uncached : (ss : List Bool) (n k : ℕ) → cached_at ss k ≡ false → cached_at (set ss n false) k ≡ false
still_uncached ss n k none = search (arith, cases_eq, set_there, get_or-set_other)

module _ {D : Type 0} (disk : D → Disk) {d : DurableState D} {m : Memory} {all : Bool} {left count : ℕ} {order : List ℕ} {most_entries : ℕ}
    {s : StoreState D}
    (view : cache_of disk d m left order most_entries ≡ s) (is : IsCache all (stored_of disk d) m left count) (n : ℕ) where
  module _ (known : n < length s.headers) where
    pub known_there : n < length m.headers
    known_there = omega (arith, known, ap (λ t. length t.headers) view)

    frozen_state_is : frozen_state_of (entry_at m.entries n) (mark_at m.pending n) (mark_at m.touched n) ≡ frozen_state_at s.frozen_state n
    frozen_state_is = sym (frozen_state_entry m n known_there) ∙ ap (λ t. frozen_state_at t.frozen_state n) view

    -- the frozen state of an entry depends on whether it has a frozen copy, not on what the copy is
    pub frozen_state_with : (k : Option (Content Cap)) → option_map kept_of (entry_at m.entries n) ≡ Some k → (p b t : Bool) →
        p ≡ mark_at m.pending n → b ≡ is_some k →
        t ≡ mark_at m.touched n →
        frozen_state_by p b t ≡ frozen_state_at s.frozen_state n
    frozen_state_with k kept p b t p_is b_is t_is = search (arith, frozen_state_is, none-some, same_Some)

    pub frozen_state_without : is_some (entry_at m.entries n) ≡ false → frozen_state_at s.frozen_state n ≡ Nothing
    frozen_state_without none = search (arith, frozen_state_is)

    pub fetched_by : IsSome (entry_at m.entries n) → IsFetchedIn s n
    fetched_by some = search (arith, known, known_there, contents_count, cached_entry)

    pub fetched_whole : all ≡ true → IsFetchedIn s n
    fetched_whole is_all = fetched_by (is.whole is_all n known_there)

  pub uncached_by : is_some (entry_at m.entries n) ≡ false → cached_at s.cached n ≡ false
  uncached_by none = ap (λ t. cached_at t.cached n) (sym view) ∙ cached_entry m.entries n ∙ none

-- n is in memory, and used longest ago; without it the order has room, and the others keep their places
pub record IsLeast {D : Type 0} (s : StoreState D) (n : ℕ) : Type 0 where
  pub known : n < length s.headers
  pub fetched : IsFetchedIn s n
  pub room : length (without n s.order) < s.capacity
  pub rest : without n s.order ≡ take (s.capacity - 1) s.order

module _ {D : Type 0} (disk : D → Disk) {d : DurableState D} {m : Memory} {all : Bool} {left count : ℕ} {order : List ℕ} {most_entries : ℕ}
    {s : StoreState D}
    (view : cache_of disk d m left order most_entries ≡ s) (is : IsCache all (stored_of disk d) m left count)
    (ordered : AreOrdered (record { at = m.entries; order = order; most = most_entries })) (full : s.capacity ≤ length s.order) where
  long : 8 ≤ length order
  long = omega (arith, ordered.least, full, ap (λ t. t.capacity) view, ap (λ t. length t.order) view)

  no_end : (ns : List ℕ) (i : ℕ) → i < length ns → slice_get ns i ≡ None → ⊥
  no_end [] i within none = omega (arith, within)
  no_end (k ∷ ns) zero within none = none-some k (sym none)
  no_end (k ∷ ns) (suc i) within none = no_end ns i (omega (arith, within)) none

  pub some_least : None ≡ used_longest_ago order → ⊥
  some_least none = no_end order (length order - 1) (omega (arith, long)) (sym none)

  module _ (n : ℕ) (at : Some n ≡ used_longest_ago order) where
    listed : is_member order n ≡ true
    listed = listed_member order (length order - 1) n (sym at)

    has_entry : IsSome (entry_at m.entries n)
    has_entry = sym (ordered.listed n) ∙ listed

    known : n < length s.headers
    known = omega (arith, some_within m.entries n has_entry, is.headers, is.entries, ap (λ t. length t.headers) view)

    seen : s.order ≡ order
    seen = ap (λ t. t.order) (sym view)

    pub is_least : IsLeast s n
    is_least =
        let last : length order - 1 + 1 ≡ length order = omega (arith, long) in
        record {
          known = known;
          fetched = fetched_by disk view is n known has_entry;
          room = omega (
            arith,
            ap (λ ns. length (without n ns)) seen,
            length_without n order listed,
            ordered.few,
            ap (λ t. t.capacity) view,
          );
          rest =
              ap (without n) seen
              ∙ sym (take_all (length order - 1) (without n order) (omega (arith, length_without n order listed)))
              ∙ front_stays n order (length order - 1) (length order - 1) last ordered.once (sym at) (omega arith)
              ∙ ap (λ k. take k order) (omega (arith, full, ordered.few, ap (λ t. t.capacity) view, ap (λ ns. length ns) seen))
              ∙ ap (take (s.capacity - 1)) (sym seen);
        }

-- after the entry used longest ago is evicted, there is room, and the other entries remain
pub evicted : {D T E : Type 0} (r : Result T E) (s u : StoreState D) (n : ℕ) → IsLeast s n → OnOk r (u ≡ without_cached n (on_device s u)) →
    OnOk r (length u.order < u.capacity) × OnOk r ((k : ℕ) → cached_at s.cached k ≡ false → cached_at u.cached k ≡ false) ×
    OnOk r (u.order ≡ take (s.capacity - 1) s.order)
evicted {D} {T} {E} r s u n least away = search (arith, still_uncached)
