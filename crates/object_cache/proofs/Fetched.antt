-- Objects that are fetched into memory one after another are all in memory at the end.
use Rattle.object_cache.proofs.Names.{inl, inr, ℕ, zero, suc, true, false, true≢false, List, [], length, take, refl, sym, ap, subst, arith, slice_index_or}
use Rattle.object_cache.proofs.Names.{cases_eq, eq-eqb, is_member, Disk, DurableState, stored_of, Memory, without, StoreState, IsCache, IsFetchedIn, ne_eqb}
use Rattle.object_cache.proofs.Names.{cache_of, cached_at, with_cached, on_device_with, take-take, used_in_turn, IsBounded, take_all, length_without, in_front}
use Rattle.object_cache.proofs.Names.{one_more, used_anew, without_absent, without_here, without_tail, length-take, Held, None, header_at, held_at, put_at}
use Rattle.object_cache.proofs.Names.{ReadsStore, below_at, newest, masked, in_staging, put_body, present_body, newest_body, contents_in, GoesOnIn, frozen_seen}
use Rattle.object_cache.proofs.Names.{Some, Cap, Content, option_map, same_Some, Stored, entry_at, mark_at, below_body, content_at, frozen_at, frozen_states_in}
use Rattle.object_cache.proofs.Names.{either_of, member_head, member_tail, in_tail, list_any-from_Contains, nat_eq_equiv, All, All-contains, Contains, Frame}
use Rattle.object_cache.proofs.Names.{ObjectHeader, EntriesState, Option, with_new, Bool}
use Rattle.std.proofs.Common.{◌≡◌, ◌≢◌, ◌+◌, ◌<◌, ◌≤◌, ◌∷◌, ◌∙◌, ◌-◌}
use Rattle.object_cache.proofs.Marking.{marked_within}
use Rattle.object_cache.proofs.Objects.{Alike, clean_alike, content_in, contents_alike, frozen_alike, keepable_alike, stored_next, unwritten_alike}
use Rattle.object_cache.proofs.Objects.{with_objects}
use Rattle.object_cache.proofs.Outcomes.{IsNext, continues_with, next_as, next_in}
use Rattle.object_cache.proofs.Freezing.{put_or_body}
use Rattle.object_cache.proofs.Caching.{no_entry, cached_next}

-- the first k numbers of an order are among the first j, if k ≤ j

front_within : (k j n : ℕ) (xs : List ℕ) → k ≤ j → is_member (take k xs) n ≡ true → is_member (take j xs) n ≡ true
front_within k j n xs few is = in_front k (take j xs) n (ap (λ ns. is_member ns n) (take-take k j xs few) ∙ is)

-- removing one number from an order moves no other towards the end
front_without : (n m k : ℕ) (ns : List ℕ) → m ≢ n → is_member (take k ns) m ≡ true → is_member (take k (without n ns)) m ≡ true
front_without n m zero ns other is = absurd (true≢false (sym is))
front_without n m (suc k) [] other is = is
front_without n m (suc k) (a ∷ rest) other is = elim (cases_eq n a) [
  | inl same ↦ rw (without_here n a rest same) (front_within k (suc k) m rest (omega arith)
      (sym (member_tail m a (take k rest) (λ here. other (sym here ∙ sym same))) ∙ is))
  | inr differs ↦ rw (without_tail n a rest differs) (elim (either_of a (take k rest) m is) [
    | inl here ↦ member_head m a (take k (without n rest)) here
    | inr later ↦ in_tail a (take k (without n rest)) m (front_without n m k rest other later)
  ])
]

-- each use moves another number at most one place towards the end
uses_stay : (ns order : List ℕ) (n k j : ℕ) → length ns + k ≤ j → is_member (take k order) n ≡ true →
    is_member (take j (used_in_turn ns order)) n ≡ true
uses_stay [] order n k j few is = front_within k j n order (omega (arith, few)) is
uses_stay (m ∷ ms) order n k j few is = uses_stay ms (m ∷ without m order) n (suc k) j (omega (arith, few)) (elim (cases_eq n m) [
  | inl same ↦ member_head n m (take k (without m order)) same
  | inr other ↦ in_tail m (take k (without m order)) n (front_without m n k order other is)
])

-- after numbers are used in turn, they are the first in the order
used_stay : (ns order : List ℕ) (n j : ℕ) → length ns ≤ j → is_member ns n ≡ true → is_member (take j (used_in_turn ns order)) n ≡ true
used_stay [] order n j few has = absurd (true≢false (sym has))
used_stay (m ∷ ms) order n j few has = elim (either_of m ms n has) [
  | inl same ↦ uses_stay ms (m ∷ without m order) n 1 j (omega (arith, few)) (member_head n m [] same)
  | inr later ↦ used_stay ms (m ∷ without m order) n j (omega (arith, few)) later
]

module _ {D : Type 0} where
  -- if up to 8 numbers are fetched in turn, all are in memory at the end
  pub all_fetched : (s t u : StoreState D) (ns : List ℕ) → t ≡ record s { order = t.order } → u ≡ on_device_with t u →
      length s.contents ≡ length s.headers → All (λ n. n < length s.headers) ns → length ns ≤ 8 → 8 ≤ t.capacity → IsBounded u →
      u.order ≡ take t.capacity (used_in_turn ns t.order) → (n : ℕ) → Contains ns n → IsFetchedIn u n
  all_fetched s t u ns used rest each known few least bounded order n has =
      let here = All-contains (λ k. k < length s.headers) ns n known has in
      record {
        header = omega (arith, here, ap (λ x. length x.headers) used, ap (λ x. length x.headers) rest);
        content = omega (arith, here, each, ap (λ x. length x.contents) used, ap (λ x. length x.contents) rest);
        cached =
            sym (bounded.listed n) ∙ ap (λ os. is_member os n) order
            ∙ used_stay ns t.order n t.capacity (omega (arith, few, least)) (list_any-from_Contains nat_eq_equiv n ns has);
      }

-- ---- which entries remain: a cache keeps the most recently used numbers, up to its capacity

-- the first j of the first k numbers are the first j, if j ≤ k
front_least : (j k : ℕ) (xs : List ℕ) → k ≤ j → take j (take k xs) ≡ take k xs
front_least j k xs few = take_all j (take k xs) (omega (arith, few, length-take {A = ℕ} k xs))

front_less : (k n : ℕ) (xs : List ℕ) → take k (without n (take (suc k) xs)) ≡ take k (without n xs)
front_less k n [] = refl
front_less zero n (m ∷ ms) = refl
front_less (suc k) n (m ∷ ms) = elim (cases_eq n m) [
  | inl same ↦ rw (without_here n m (take (suc k) ms) same, without_here n m ms same) (front_least (suc k) (suc k) ms (omega arith))
  | inr other ↦ rw (without_tail n m (take (suc k) ms) other, front_less k n ms, without_tail n m ms other)
]

-- after a number is used, the first `most` are the same, whether or not the others were cut off before
use_keeps_front : (most n : ℕ) (xs : List ℕ) → take most (n ∷ without n (take most xs)) ≡ take most (n ∷ without n xs)
use_keeps_front most n xs = search (arith, front_less)

pub pushed_to_front : (most n : ℕ) (xs : List ℕ) → 0 < most → n ∷ take (most - 1) xs ≡ take most (n ∷ xs)
pushed_to_front most n xs some = search arith

pub same_front : (j : ℕ) (xs ys : List ℕ) → ys ≡ xs → length xs ≤ j → ys ≡ take j xs
same_front j xs ys same few = same ∙ sym (take_all j xs few)

-- ---- a number is used

-- using a number that has an entry keeps the order within the capacity
pub used_order : {D : Type 0} (s : StoreState D) (n : ℕ) → IsBounded s → IsFetchedIn s n →
    n ∷ without n s.order ≡ take s.capacity (n ∷ without n s.order)
used_order {D} s n bounded there = search (arith, same_front, length_without)

-- using a number without an entry, after room was made, keeps the order within the capacity
pub brought_order : {D : Type 0} (s : StoreState D) (n : ℕ) (os : List ℕ) → IsBounded s → cached_at s.cached n ≡ false →
    os ≡ take s.capacity (n ∷ s.order) → os ≡ take s.capacity (n ∷ without n s.order)
brought_order s n os bounded none is = is ∙ ap (λ ns. take s.capacity (n ∷ ns)) (sym (without_absent n s.order (bounded.listed n ∙ none)))

-- ---- numbers are fetched in turn

pub used_more : (most i : ℕ) (ns s t u : List ℕ) → i < length ns → t ≡ take most (used_in_turn (take i ns) s) →
    u ≡ take most (slice_index_or ns i 0 ∷ without (slice_index_or ns i 0) t) → u ≡ take most (used_in_turn (take (i + 1) ns) s)
used_more most i ns s t u below before is = search (arith, use_keeps_front, one_more)

-- using all numbers after the first k were used gives the order of using all
pub used_then : (most k : ℕ) (ns s t u : List ℕ) → t ≡ used_in_turn (take k ns) s → u ≡ take most (used_in_turn ns t) →
    u ≡ take most (used_in_turn ns s)
used_then most k ns s t u first is = is ∙ ap (λ ks. take most (used_in_turn ns ks)) first
    ∙ ap (take most) (used_anew ns (take k ns) s (in_front k ns))

-- ---- a body is read from the device; the store's view is unchanged

module _ {D : Type 0} (disk : D → Disk) {d : DurableState D} {m : Memory} {all : Bool} {left count : ℕ} {order : List ℕ} {most_entries : ℕ}
    {s : StoreState D}
    (view : cache_of disk d m left order most_entries ≡ s) (is : IsCache all (stored_of disk d) m left count) where
  module _ (n : ℕ) (known : n < length s.headers) (uncached : cached_at s.cached n ≡ false) (empty : s.staging ≡ None) where
    known_here : n < length m.headers
    known_here = omega (arith, known, ap (λ t. length t.headers) view)

    newest_is : newest_body (stored_of disk d) m n ≡ (newest (stored_of disk d) n).content
    newest_is = search (arith, put_or_body)

    -- the body that was read is the object's content
    pub read_holds : masked (header_at m.headers n).role (newest (stored_of disk d) n).content ≡ held_at s.contents n
    read_holds =
        ap (masked (header_at m.headers n).role) (sym newest_is)
        ∙ sym (ap (λ o. present_body o (header_at m.headers n).role (newest_body (stored_of disk d) m n))
        (no_entry disk view is n uncached)) ∙ sym (content_in (stored_of disk d) m n known_here) ∙ ap (λ t. held_at t.contents n) view

  pub read_next : {new : DurableState D} → ReadsStore disk d new → (disk d.beneath).failures ≤ (disk new.beneath).failures →
      IsNext all disk s new m left count order most_entries (record s { durable = new })
  read_next {new} reads later = search (arith, stored_next)

  -- after the body becomes an entry, the invariant holds
  pub kept_next : (n : ℕ) → n < length s.headers → cached_at s.cached n ≡ false → s.staging ≡ None → {new : DurableState D} →
      ReadsStore disk d new → (disk d.beneath).failures ≤ (disk new.beneath).failures → {f : Frame} → f ≡ newest (stored_of disk d) n →
      {h : ObjectHeader} → h ≡ header_at m.headers n → {es : EntriesState} →
      es ≡ with_new n (masked h.role f.content) (record { at = m.entries; order = order; most = most_entries }) →
      IsNext all disk s new (with_objects m m.headers es.at) left count es.order es.most
      (with_cached n (record s { durable = new }))
  kept_next n known uncached empty {new} reads later {f} found {h} h_is {es} es_is =
      let next = read_next reads later in
      let t = with_cached n (record s { durable = new }) in
      let held = ap (λ g. masked h.role g.content) found ∙ ap (λ g. masked g.role (newest (stored_of disk d) n).content) h_is
      ∙ read_holds n known uncached empty in
      let now = cached_next disk next.view next.is n (masked h.role f.content) known uncached held in
      next_in (record {
        is = now.is;
        view = now.view;
        continues = subst (GoesOnIn disk s) (sym now.view) (continues_with disk t.cached t.frozen_state t.order t.staging
            (subst (GoesOnIn disk s) next.view next.continues));
      }) (λ k. with_objects m m.headers (es_is k).at) (ap (λ x. x.order) es_is) (ap (λ x. x.most) es_is)

-- ---- a frozen body is read into the staging buffer; nothing else changes in the store's view

abbrev pub holding_up : ℕ → Content Cap → Memory → Memory
holding_up n c m = record m { staging = Some (record { number = n; content = c }) }

module _ {s : Stored} {m : Memory} {all : Bool} {left count : ℕ} (is : IsCache all s m left count) (n : ℕ)
    (pending : mark_at m.pending n ≡ true) (empty : m.staging ≡ None)
    (c : Content Cap) (read : c ≡ (below_at s n).content) where
  abbrev then : Memory
  then = holding_up n c m

  in_staging_same : (k : ℕ) → in_staging (Some (record { number = n; content = c })) k (below_at s k).content ≡ (below_at s k).content
  in_staging_same k = search (arith, cases_eq, eq-eqb, ne_eqb)

  below_same : (k : ℕ) → below_body s then k ≡ below_body s m k
  below_same k = in_staging_same k ∙ sym (ap (λ o. in_staging o k (below_at s k).content) empty)

  content_same : (k : ℕ) → content_at s then k ≡ content_at s m k
  content_same k = ap (λ x. present_body (entry_at m.entries k) (header_at m.headers k).role (put_body (put_at s.working k) x))
      (below_same k)

  frozen_stays : (k : ℕ) → frozen_at s then k ≡ frozen_at s m k
  frozen_stays k = rw (below_same k)

  pub taken_alike : Alike s m s (holding_up n c m)
  taken_alike = record { headers = refl; content = content_same; frozen = frozen_stays }

  pub taken_cache : IsCache all s then left count
  taken_cache =
      let held : (h : Held) → then.staging ≡ Some h → mark_at m.pending h.number ≡ true =
      λ h h_is. subst (λ g. mark_at m.pending g.number ≡ true) (same_Some (record { number = n; content = c }) h h_is) pending in
      search (clean_alike taken_alike is, unwritten_alike taken_alike is, keepable_alike taken_alike is)

-- facts about a store whose view is s
module _ {D : Type 0} (disk : D → Disk) {d : DurableState D} {m : Memory} {all : Bool} {left count : ℕ} {order : List ℕ} {most_entries : ℕ}
    {s : StoreState D}
    (view : cache_of disk d m left order most_entries ≡ s) (is : IsCache all (stored_of disk d) m left count) (n : ℕ)
    (pending : mark_at s.pending n ≡ true) where
  pending_here : mark_at m.pending n ≡ true
  pending_here = ap (λ t. mark_at t.pending n) view ∙ pending

  pub pending_known : n < length s.headers
  pending_known = omega (arith, marked_within m.pending n pending_here, is.pending_marks, is.headers, ap (λ t. length t.headers) view)

  module _ (empty : s.staging ≡ None) (new : DurableState D) (reads : ReadsStore disk d new) (c : Content Cap)
      (read : c ≡ (below_at (stored_of disk d) n).content) where
    empty_here : m.staging ≡ None
    empty_here = ap (λ t. t.staging) view ∙ empty

    pub taken_next : {staging : Option Held} → staging ≡ Some (record { number = n; content = c }) →
        (disk d.beneath).failures ≤ (disk new.beneath).failures →
        IsNext all disk s new (record m { staging = staging }) left count order most_entries (record s { durable = new; staging = staging })
    unfolding frozen_states_in
    taken_next staging_is later =
        let next = read_next disk view is reads later in
        next_as (next_in (record {
          is = subst (λ t. IsCache all t (holding_up n c m) left count) (sym reads.stored)
              (taken_cache is n pending_here empty_here c read);
          view = seen;
          continues = subst (GoesOnIn disk s) (sym seen) (continues_with disk s.cached s.frozen_state s.order
              (Some (record { number = n; content = c }))
              (subst (GoesOnIn disk s) next.view next.continues));
        }) (λ k. record m { staging = staging_is k }) refl refl) (λ k. record s { durable = new; staging = sym staging_is k }) where
          seen : cache_of disk new (holding_up n c m) left order most_entries
              ≡ record s { durable = new; staging = Some (record { number = n; content = c }) }
          seen =
              ap (λ t. record (cache_of disk d m left order most_entries) {
                durable = new;
                contents = contents_in t (holding_up n c m);
                frozen = frozen_seen t (holding_up n c m) left;
                staging = Some (record { number = n; content = c });
              }) reads.stored
              ∙ (λ k. record (cache_of disk d m left order most_entries) {
                durable = new;
                contents = contents_alike (taken_alike is n pending_here empty_here c read) k;
                frozen = option_map (λ f. record {
                  frames = frozen_alike (taken_alike is n pending_here empty_here c read) k;
                  size = f.size;
                  left = left;
                })
                    (stored_of disk d).frozen;
                staging = Some (record { number = n; content = c });
              }) ∙ ap (λ (t : StoreState D). record t { durable = new; staging = Some (record { number = n; content = c }) }) view
