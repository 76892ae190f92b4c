-- The invariant of a store, and steps between its states.
use Rattle.object_cache.proofs.Names.{arith, ℕ, Bool, List, Option, sym, ap, subst, Disk, stored_of, Held, FrozenState, StoreState, GoesOnIn, DurableState}
use Rattle.object_cache.proofs.Names.{IsCache, Memory, cache_of, true, false, Result, None, option_map, none-some, Counts, Ok, Err, counted_ok, ok_counts}
use Rattle.object_cache.proofs.Names.{err_counts, err_from_is_err_and, is_err, IsErrAnd}
use Rattle.std.proofs.Common.{◌≡◌, ◌∙◌}

-- the fields of a store satisfy its invariant, and s is their view
pub record IsSeenAs {D : Type 0} (all : Bool) (disk : D → Disk) (d : DurableState D) (m : Memory) (left count : ℕ) (order : List ℕ)
    (most_entries : ℕ) (s : StoreState D) :
    Type 0 where
  pub is : IsCache all (stored_of disk d) m left count
  pub view : cache_of disk d m left order most_entries ≡ s

-- after a step the fields satisfy the invariant, t is their view, and only present objects changed since s
pub record IsNext {D : Type 0} (all : Bool) (disk : D → Disk) (s : StoreState D) (d : DurableState D) (m : Memory) (left count : ℕ)
    (order : List ℕ) (most_entries : ℕ)
    (t : StoreState D) : Type 0 where
  pub is : IsCache all (stored_of disk d) m left count
  pub view : cache_of disk d m left order most_entries ≡ t
  pub continues : GoesOnIn disk s (cache_of disk d m left order most_entries)

module _ {D : Type 0} {disk : D → Disk} {s t : StoreState D} {d : DurableState D} {m : Memory} {all : Bool} {left count : ℕ}
    {order : List ℕ} {most_entries : ℕ}
    (next : IsNext all disk s d m left count order most_entries t) where
  pub next_as : {u : StoreState D} → t ≡ u → IsNext all disk s d m left count order most_entries u
  next_as same = record { is = next.is; view = next.view ∙ same; continues = next.continues }

  pub next_in : {n : Memory} {ns : List ℕ} {most : ℕ} → n ≡ m → ns ≡ order → most ≡ most_entries →
      IsNext all disk s d n left count ns most t
  next_in m_is order_is most_is = subst (λ (x : Memory × List ℕ × ℕ). IsNext all disk s d x.0 left count x.1 x.2 t)
      (λ k. (sym m_is k, sym order_is k, sym most_is k)) next

module _ {D : Type 0} (disk : D → Disk) where
  -- `GoesOnIn` doesn't depend on cache entries, their order, frozen states or the staging buffer
  pub continues_with : {s t : StoreState D} (cached : List Bool) (frozen_state : List FrozenState) (order : List ℕ) (staging : Option Held)
      → GoesOnIn disk s t →
      GoesOnIn disk s (record t { cached = cached; frozen_state = frozen_state; order = order; staging = staging })
  continues_with cached frozen_state order staging first = search

  -- failures counted for the device of s are counted for that of an equal state
  pub counts_ok : {T U E : Type 0} {s t : StoreState D} {new : Disk} {x : T} {y : U} → s ≡ t →
      Counts {E = E} (disk s.durable.beneath) new (Ok x) → Counts {E = E} (disk t.durable.beneath) new (Ok y)
  counts_ok same counts = ok_counts (counted_ok counts ∙ ap (λ x. (disk x.durable.beneath).failures) same)

  pub counts_err : {T U E : Type 0} {s t : StoreState D} {new : Disk} {e : E} (r : Result U E) (Q : E → Type 0) → s ≡ t → IsErrAnd r Q →
      Counts {T = T} (disk s.durable.beneath) new (Err e) → Counts (disk t.durable.beneath) new r
  counts_err {new = new} r Q same failed counts = subst (λ x. Counts (disk x.durable.beneath) new r) same
      (err_counts (ap is_err (err_from_is_err_and r failed).1) counts)

  -- `GoesOnIn` doesn't depend on the frozen states before
  pub continues_past : {s t u : StoreState D} (x : List FrozenState) → t ≡ record s { frozen_state = x } → GoesOnIn disk t u →
      GoesOnIn disk s u
  continues_past {s} {t} {u} x same later =
      let on = subst (λ y. GoesOnIn disk y u) same later in
      record {
        goes_on = on.goes_on;
        snapshots = on.snapshots;
        later = on.later;
        grows = on.grows;
        capacity = on.capacity;
        only_reads = on.only_reads;
      }

-- ---- what a call that may fail leaves in each case

pub none_of : {A B : Type 0} (f : A → B) (o : Option A) → option_map f o ≡ None → o ≡ None
none_of {A} {B} f o is = search (arith, none-some)

-- a property holds in either case of an answer
pub whichever : {X : Type 0} (b : Bool) (P : X → Type 0) (x y z : X) → (b ≡ true → x ≡ y) → (b ≡ false → x ≡ z) → P y → P z → P x
whichever {X} b P x y z if_true if_false on_true on_false = search arith
