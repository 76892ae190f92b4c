-- The present frame of an object is written to the log, or the write fails.
use Rattle.object_cache.proofs.Names.{inl, inr, ℕ, zero, suc, Bool, true, false, cond, List, [], length, set, Some, option_map, refl, sym, ap, subst, arith}
use Rattle.object_cache.proofs.Names.{length-set, get_or-set_same, get_or-set_other, sum_by-cons, none-some, Cap, ObjectHeader, Content, header_at, held_at}
use Rattle.object_cache.proofs.Names.{IsKeepable, touched_count, Disk, Put, Absent, Broken, Kept, put_at, held_slot, sum_of, HasFreeSlot, most, DurableState}
use Rattle.object_cache.proofs.Names.{Stored, GoesOn, stored_of, with_working, Entry, entry_at, present_of, Memory, mark_at, content_at, present_at}
use Rattle.object_cache.proofs.Names.{contents_in, frozen_in, frozen_states_in, StoreState, IsCache, IsFetchedIn, GoesOnIn, cache_of, frozen_seen}
use Rattle.std.proofs.Common.{◌≡◌, ◌≢◌, ◌⊎◌, ◌<◌, ◌≤◌, ◌∷◌, ◌∙◌}
use Rattle.object_cache.proofs.Outcomes.{IsNext, next_as}
use Rattle.object_cache.proofs.Marking.{one_fewer}
use Rattle.object_cache.proofs.Objects.{of_each, Alike, content_in, contents_alike, entry_found, fetched_known, present_alike, present_is, unwritten_alike}

-- ---- slots

-- at most as many objects have working slots as are touched
pub held_touched : (ps : List Put) (ts : List Bool) → length ps ≡ length ts → ((k : ℕ) → mark_at ts k ≡ false → put_at ps k ≡ Absent) →
    sum_of held_slot ps ≤ touched_count ts
unfolding sum_of
held_touched [] ts count each = omega arith
held_touched (p ∷ ps) [] count each = absurd (omega (arith, count))
held_touched (p ∷ ps) (true ∷ ts) count each =
    let total = sum_by-cons (λ b. cond b 1 0) true ts in
    let rest = held_touched ps ts (omega (arith, count)) (λ k. each (suc k)) in
    omega (arith, total, rest, one_slot p)
  where
    one_slot : (q : Put) → held_slot q ≤ 1
    one_slot Absent = omega arith
    one_slot other = omega arith
held_touched (p ∷ ps) (false ∷ ts) count each =
    let total = sum_by-cons (λ b. cond b 1 0) false ts in
    let rest = held_touched ps ts (omega (arith, count)) (λ k. each (suc k)) in
    let none : held_slot p ≡ 0 = ap held_slot (each zero refl) in
    omega (arith, total, rest, none)

-- if a touched object has no working slot, fewer objects have one than are touched
held_short : (ps : List Put) (ts : List Bool) (n : ℕ) → length ps ≡ length ts → ((k : ℕ) → mark_at ts k ≡ false → put_at ps k ≡ Absent) →
    mark_at ts n ≡ true → put_at ps n ≡ Absent → sum_of held_slot ps < touched_count ts
held_short ps ts n count each marked none =
    let less = one_fewer ts n marked in
    let few = held_touched ps (set ts n false) (count ∙ sym (length-set ts n false))
    (of_each n (λ unmarked. none) (λ k other. rw (get_or-set_other ts n k false false other) (each k))) in
    omega (arith, less, few)

pub has_free_slot : (room : ℕ) (ps : List Put) (ts : List Bool) (n : ℕ) → length ps ≡ length ts →
    ((k : ℕ) → mark_at ts k ≡ false → put_at ps k ≡ Absent) → mark_at ts n ≡ true → touched_count ts ≤ room → HasFreeSlot room ps n
has_free_slot room ps ts n count each marked within = search (arith, held_short)

-- ---- a working frame

-- the memory with these marks of dirty objects
abbrev pub with_dirty : Memory → List Bool → Memory
with_dirty m ds = record m { dirty = ds }

module _ {s : Stored} {m : Memory} {all : Bool} {left count : ℕ} (is : IsCache all s m left count) (n : ℕ) (within : n < length m.headers)
    (e : Entry)
    (at : entry_at m.entries n ≡ Some e) (dirty : mark_at m.dirty n ≡ true)
    (p : Put) (ds : List Bool) (size : length ds ≡ length m.dirty) (others : (k : ℕ) → k ≢ n → mark_at ds k ≡ mark_at m.dirty k)
    (here : (mark_at ds n ≡ true) ⊎ (p ≡ Kept (present_at s m n))) where
  abbrev after : Stored
  after = with_working n p s

  put_elsewhere : (k : ℕ) → k ≢ n → put_at after.working k ≡ put_at s.working k
  put_elsewhere k other = get_or-set_other s.working n k p Absent other

  content_stays : (k : ℕ) → content_at after (with_dirty m ds) k ≡ content_at s m k
  content_stays = of_each n (rw at) (λ k other. rw (put_elsewhere k other))

  pub put_alike : Alike s m (with_working n p s) (with_dirty m ds)
  put_alike = record { headers = refl; content = content_stays; frozen = λ k. refl }

  present_stays : (k : ℕ) → present_at after (with_dirty m ds) k ≡ present_at s m k
  present_stays = present_alike put_alike

  pub put_cache : IsCache all after (with_dirty m ds) left count
  unfolding frozen_in
  put_cache = search (arith, of_each, get_or-set_same, present_stays, put_elsewhere, none-some, unwritten_alike, put_alike, length-set)

-- ---- facts about a store whose view is s

module _ {D : Type 0} (disk : D → Disk) {d : DurableState D} {m : Memory} {all : Bool} {left count : ℕ} {order : List ℕ} {most_entries : ℕ}
    {s : StoreState D}
    (view : cache_of disk d m left order most_entries ≡ s) (is : IsCache all (stored_of disk d) m left count) {n : ℕ}
    (fetched : IsFetchedIn s n)
    (dirty : mark_at s.dirty n ≡ true) where
  known_here : n < length m.headers
  known_here = fetched_known disk view is fetched

  entry_here : (e : Entry) × (entry_at m.entries n ≡ Some e)
  entry_here = entry_found disk view is fetched

  dirty_here : mark_at m.dirty n ≡ true
  dirty_here = ap (λ t. mark_at t.dirty n) view ∙ dirty

  touched_here : mark_at m.touched n ≡ true
  touched_here = is.marked n dirty_here

  pub room_here : HasFreeSlot (stored_of disk d).saved.geometry.log (stored_of disk d).working n
  room_here = has_free_slot (stored_of disk d).saved.geometry.log (stored_of disk d).working m.touched n (is.puts ∙ sym is.marks) is.unput
      touched_here
      (omega (arith, is.within, is.counted))

  -- facts after the working slot of object n was written
  module _ {new : DurableState D} {p : Put} {ds : List Bool} (size : length ds ≡ length m.dirty)
      (others : (k : ℕ) → k ≢ n → mark_at ds k ≡ mark_at m.dirty k)
      (here : (mark_at ds n ≡ true) ⊎ (p ≡ Kept (present_at (stored_of disk d) m n)))
      (put : stored_of disk new ≡ with_working n p (stored_of disk d))
      (goes : GoesOn disk d new) (later : (disk d.beneath).failures ≤ (disk new.beneath).failures) where
    seen_put : cache_of disk new (with_dirty m ds) left order most_entries ≡ record s { durable = new; dirty = ds }
    unfolding frozen_in frozen_states_in
    seen_put =
        ap (λ t. record (cache_of disk d m left order most_entries) {
          durable = new;
          dirty = ds;
          contents = contents_in t (with_dirty m ds);
          frozen = frozen_seen t (with_dirty m ds) left;
        }) put
        ∙ (λ k. record (view k) {
          durable = new;
          dirty = ds;
          contents = (contents_alike (put_alike is n known_here entry_here.0 entry_here.1 dirty_here p ds size others here)
              ∙ ap (λ t. t.contents) view) k;
        })

    put_next : IsNext all disk s new (with_dirty m ds) left count order most_entries (record s { durable = new; dirty = ds })
    put_next = record {
      is = subst (λ t. IsCache all t (with_dirty m ds) left count) (sym put)
          (put_cache is n known_here entry_here.0 entry_here.1 dirty_here p ds size others here);
      view = seen_put;
      continues = subst (GoesOnIn disk s) (sym seen_put) (record {
        goes_on = subst (λ t. GoesOn disk t.durable new) view goes;
        snapshots =
            ap (λ u. record { frozen = s.frozen; saved = u.saved; to_move = u.to_move }) put
            ∙ ap (λ t. record { frozen = s.frozen; saved = (stored_of disk t.durable).saved; to_move = (stored_of disk t.durable).to_move })
            view;
        later = subst (λ t. (disk t.durable.beneath).failures ≤ (disk new.beneath).failures) view later;
        grows = omega arith;
        capacity = refl;
        only_reads = λ none idle. absurd (omega (
          arith,
          none,
          one_fewer s.touched n
              (ap (λ t. mark_at t.touched n) (sym view) ∙ touched_here),
        ));
      });
    }

  -- after a failed write, the invariant holds with a broken frame
  pub unput_next : {new : DurableState D} → stored_of disk new ≡ with_working n Broken (stored_of disk d) → GoesOn disk d new →
      (disk d.beneath).failures ≤ (disk new.beneath).failures → IsNext all disk s new m left count order most_entries
      (record s { durable = new })
  unput_next {new = new} put goes later = next_as (put_next refl (λ k other. refl) (inl dirty_here) put goes later)
      (ap (λ t. record s { durable = new; dirty = t.dirty }) view)

  module _ {header : ObjectHeader} {x : Content Cap} (header_is : header ≡ header_at m.headers n)
      (x_is : option_map present_of (entry_at m.entries n) ≡ Some x) where
    frame_is : record { header = header; content = x } ≡ present_at (stored_of disk d) m n
    frame_is = search (arith, present_is)

    pub keepable_here : IsKeepable (stored_of disk s.durable).saved.geometry most n
        (record { header = header_at s.headers n; content = held_at s.contents n })
        → IsKeepable (stored_of disk d).saved.geometry most n (record { header = header; content = x })
    keepable_here keepable = search (arith, content_in, known_here, frame_is)

    -- after a write, the invariant holds with the object's frame in its slot
    pub kept_next : {ds : List Bool} → ds ≡ set m.dirty n false → {new : DurableState D} →
        stored_of disk new ≡ with_working n (Kept (record { header = header; content = x })) (stored_of disk d) → GoesOn disk d new →
        (disk d.beneath).failures ≤ (disk new.beneath).failures →
        IsNext all disk s new (with_dirty m ds) left count order most_entries (record s { durable = new; dirty = set s.dirty n false })
    kept_next ds_is {new = new} put goes later = next_as
        (put_next (ap length ds_is ∙ length-set m.dirty n false)
        (λ k other. ap (λ x. mark_at x k) ds_is ∙ get_or-set_other m.dirty n k false false other) (inr (ap Kept frame_is)) put goes later)
        (λ k. record s { durable = new; dirty = (ds_is ∙ ap (λ t. set t.dirty n false) view) k })
