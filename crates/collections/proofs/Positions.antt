-- Items by place, where a place may have none.
use Rattle.std.proofs.lemmas.Bool.Decides.{nat_tests}
use Rattle.std.proofs.Common.{inl, inr, ℕ, false, List, [], length, set, get_or, replicate, Option, Some, None, IsSome, is_some, true≢false}
use Rattle.std.proofs.Common.{refl, sym, ap, arith, length-append, length-set, map, zero, suc, take, nat_lt}
use Rattle.std.proofs.lemmas.Bool.{cases_lt, le-ltb, lt-ltb}
use Rattle.std.proofs.lemmas.List.{get_or-set_same, get_or-set_other, get_or_past, get_or_default, length-map, take_all}
use Rattle.std.proofs.lemmas.List.Sums.{count_by-le-length}
use Rattle.std.proofs.lemmas.Option.{slice_get_past, slice_get_read}
use Rattle.std.specs.List.{slice_get}
use Rattle.collections.specs.SparseVec.{ArePositions, item_at, position}
unfoldable use Rattle.collections.specs.SparseVec.{items_in}
use Rattle.std.proofs.Common.{◌≡◌, ◌≢◌, ◌+◌, ◌-◌, ◌<◌, ◌≤◌, ◌∷◌, ◌++◌, ◌∙◌}
use Rattle.collections.proofs.Lists.{changed_once, get_append, get_append_end, get_map, get_set_here, get_set_other, get_some, one_counted, not_all_counted}

module _ {X : Type 0} where
  pub length_items : (items : List X) (at : List ℕ) → length (items_in items at) ≡ length at
  unfolding items_in
  length_items items at = length-map at (slice_get items)

  item_is : (items : List X) (at : List ℕ) → length items ≤ length at → (k : ℕ) →
      item_at (items_in items at) k ≡ slice_get items (position at k)
  unfolding items_in
  item_is items at few k = get_map (slice_get items) at k (length at) None (slice_get_past items (length at) few)

  module _ (items : List X) (at : List ℕ) (is : ArePositions at (length items)) where
    few : length items ≤ length at
    few = omega (arith, is.each, count_by-le-length (λ a. nat_lt a (length at)) at)

    module _ (v : List (Option X)) (view : items_in items at ≡ v) (k : ℕ) where
      read : item_at v k ≡ slice_get items (position at k)
      read = ap (λ (xs : List (Option X)). item_at xs k) (sym view) ∙ item_is items at few k

      pub placed : k < length v → k < length at
      placed within = omega (arith, within, ap length view, length_items items at)

      inside : IsSome (item_at v k) → position at k < length items
      inside some = grind (arith, nat_tests, read, slice_get_past)

      outside : is_some (item_at v k) ≡ false → length at ≤ position at k
      outside none = elim (cases_lt (position at k) (length at)) [
        | inl within ↦ let x = get_some items (position at k) (is.known k within) in
            absurd (true≢false (sym (ap is_some (read ∙ x.1)) ∙ none))
        | inr past ↦ past
      ]

      pub has_place : IsSome (item_at v k) → k < length at
      has_place some = grind (arith, nat_tests, few, inside, get_or_past)

      module _ (p : ℕ) (p_is : p ≡ get_or at k p) where
        here : k < length at → p ≡ position at k
        here within = p_is ∙ get_or_default at k p (length at) within

        pub has_is : k < length v → nat_lt p (length items) ≡ is_some (item_at v k)
        has_is within = elim (cases_lt p (length items)) [
          | inl below ↦ let x = get_some items p below in lt-ltb p (length items) below ∙ sym
              (ap is_some (read ∙ ap (slice_get items) (sym (here (placed within))) ∙ x.1))
          | inr past ↦ le-ltb p (length items) past ∙ sym (ap is_some (read
              ∙ slice_get_past items (position at k) (omega (arith, past, here (placed within)))))
        ]

        module _ (some : IsSome (item_at v k)) where
          pub inside_at : p < length items
          inside_at = omega (arith, inside some, here (has_place some))

          pub item_read : (x : X) → x ≡ get_or items p x → item_at v k ≡ Some x
          item_read x x_is = read ∙ ap (slice_get items) (sym (here (has_place some)))
              ∙ slice_get_read items (length items) p x refl inside_at x_is

          pub changed : (x : X) → items_in (set items p x) at ≡ set v k (Some x)
          changed x =
              let at_k = here (has_place some) in
              let fits : length (set items p x) ≤ length at = omega (arith, few, length-set items p x) in
              changed_once (items_in items at) (items_in (set items p x) at) k None (Some x)
              (length_items (set items p x) at ∙ sym (length_items items at))
              (omega (arith, has_place some, length_items items at))
              (item_is (set items p x) at fits k ∙ ap (slice_get (set items p x)) (sym at_k) ∙ get_set_here items p x inside_at)
              (λ m other.
              item_is (set items p x) at fits m
              ∙ get_set_other items p (position at m) x (λ same. other (is.apart m k (same ∙ at_k) (omega (arith, same, inside_at, few))))
              ∙ sym (item_is items at few m))
              ∙ ap (λ (xs : List (Option X)). set xs k (Some x)) view

      -- adding an item at a place that has none
      module _ (within : k < length v) (none : is_some (item_at v k) ≡ false) where
        pub room : length items < length at
        room = omega (
          arith,
          is.each,
          not_all_counted (λ a. nat_lt a (length at)) at k (length at) 0 (placed within)
              (le-ltb (position at k) (length at) (outside none)) (lt-ltb 0 (length at) (omega (arith, placed within))),
        )

        module _ (x : X) where
          abbrev more : List X
          more = items ++ x ∷ []

          abbrev after : List ℕ
          after = set at k (length items)

          same_length : length after ≡ length at
          same_length = length-set at k (length items)

          one_more : length more ≡ length items + 1
          one_more = length-append items (x ∷ [])

          now_here : position after k ≡ length items
          now_here = get_or-set_same at k (length items) (length after) (placed within)

          still : (m : ℕ) → m ≢ k → position after m ≡ position at m
          still m other = get_or-set_other at k m (length items) (length after) other ∙ ap (get_or at m) same_length

          -- no other place has the new item's position
          elsewhere : (m : ℕ) → m ≢ k → position after m ≢ length items
          elsewhere m other same = omega (arith, is.known m (omega (arith, still m other, same, room)), still m other, same)

          pub added_positions : ArePositions after (length more)
          added_positions = grind (arith, nat_tests, now_here, one_more, still, same_length, elsewhere, one_counted, placed, outside, room)

          fits_more : length more ≤ length after
          fits_more = omega (arith, room, one_more, same_length)

          pub added : items_in more after ≡ set v k (Some x)
          added =
              changed_once (items_in items at) (items_in more after) k None (Some x)
              (length_items more after ∙ same_length ∙ sym (length_items items at))
              (omega (arith, placed within, length_items items at))
              (item_is more after fits_more k ∙ ap (slice_get more) now_here ∙ get_append_end items x)
              (λ m other. item_is more after fits_more m ∙ ap (slice_get more) (still m other)
              ∙ elim (cases_lt (position at m) (length items)) [
                | inl below ↦ get_append items x (position at m) below
                | inr past ↦ slice_get_past more (position at m) (omega (arith, past, one_more, elsewhere m other, still m other)) ∙ sym
                    (slice_get_past items (position at m) past)
              ] ∙ sym (item_is items at few m))
              ∙ ap (λ (xs : List (Option X)). set xs k (Some x)) view

module _ (n : ℕ) (at : List ℕ) (at_is : at ≡ replicate n n) where
  -- at first no place has an item
  pub none_in : {X : Type 0} → items_in {T = X} [] at ≡ replicate n None
  unfolding items_in
  none_in {X} = ap (map (slice_get [])) at_is ∙ go n
    where
      go : (k : ℕ) → map (slice_get {X = X} []) (replicate k n) ≡ replicate k None
      go zero = refl
      go (suc k) = ap (λ (os : List (Option X)). None ∷ os) (go k)

-- an empty vector, extended to n items of value d, holds d n times
pub filled : (n d k : ℕ) (xs at : List ℕ) → at ≡ take n xs ++ replicate (n - k) d → xs ≡ [] → k ≡ 0 → at ≡ replicate n d
filled n d k xs at is none zero_is = grind (arith, nat_tests, take_all)
