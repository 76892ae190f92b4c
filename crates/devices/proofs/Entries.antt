-- The record of a device, and its events.
use Rattle.devices.proofs.Names.{nat_tests, ℕ, zero, suc, List, [], length, get_or, Option, Some, None, unwrap_or, refl, sym, ap, arith, inl, inr, ⊎_elim}
use Rattle.devices.proofs.Names.{length-append, append_assoc, set, Outcome, Wrote, Synced, RecordEntry, image_of, Event, wrote, synced, cut, writes_of, IsQuiet}
use Rattle.devices.proofs.Names.{EndsCut, event_of, mark_of, entry_events, events_of, entries_of, mark_after, marked}
use Rattle.std.proofs.Common.{◌≡◌, ◌⊎◌, ◌+◌, ◌∷◌, ◌++◌, ◌∙◌}

-- marking the last entry, in place, marks the list
pub marked_set : (outcome : Outcome) (es : List RecordEntry) (k : ℕ) (e : RecordEntry) → suc k ≡ length es → e ≡ get_or es k e →
    set es k (mark_after outcome e) ≡ marked outcome es
marked_set outcome [] k e size is = cc
marked_set outcome (x ∷ []) zero e size is = ap (λ (y : RecordEntry). mark_after outcome y ∷ []) is
marked_set outcome (x ∷ []) (suc k) e size is = absurd (omega arith)
marked_set outcome (x ∷ (y ∷ es)) zero e size is = absurd (omega arith)
marked_set outcome (x ∷ (y ∷ es)) (suc k) e size is = ap (λ (l : List RecordEntry). x ∷ l)
    (marked_set outcome (y ∷ es) k e (omega arith) is)

-- the events of xs ++ ys are those of xs, then those of ys
pub events_of-append : (xs ys : List RecordEntry) → events_of (xs ++ ys) ≡ events_of xs ++ events_of ys
events_of-append [] ys = refl
events_of-append (x ∷ xs) ys = ap (λ (l : List Event). entry_events x ++ l) (events_of-append xs ys) ∙
    sym (append_assoc (entry_events x) (events_of xs) (events_of ys))

-- the entries of a write have the events of the write
pub events_of-entries_of : (at n : ℕ) (bytes : List ℕ) → events_of (entries_of at n bytes) ≡ writes_of at n bytes
events_of-entries_of at zero bytes = refl
events_of-entries_of at (suc n) bytes =
    events_of-append (entries_of at n bytes) (record { action = Wrote (at + n) (image_of bytes n); cut = None } ∷ [])
    ∙ ap (λ (l : List Event). l ++ wrote (at + n) (image_of bytes n) ∷ []) (events_of-entries_of at n bytes)

pub length-entries_of : (at n : ℕ) (bytes : List ℕ) → length (entries_of at n bytes) ≡ n
length-entries_of at zero bytes = refl
length-entries_of at (suc n) bytes = omega (
  arith,
  length-append (entries_of at n bytes) (record { action = Wrote (at + n) (image_of bytes n); cut = None } ∷ []),
  length-entries_of at n bytes,
)

-- a write adds its events to the record's
pub past_written : (entries more : List RecordEntry) (at n : ℕ) (bytes : List ℕ) → more ≡ entries ++ entries_of at n bytes →
    events_of more ≡ events_of entries ++ writes_of at n bytes
past_written entries more at n bytes is = grind (arith, nat_tests, events_of-append, events_of-entries_of)

pub length_written : (entries more : List RecordEntry) (at n : ℕ) (bytes : List ℕ) → more ≡ entries ++ entries_of at n bytes →
    length more ≡ length entries + n
length_written entries more at n bytes is = omega (
  arith,
  ap length is,
  length-append entries (entries_of at n bytes),
  length-entries_of at n bytes,
)

-- a sync adds its event to the record's
pub past_synced : (entries more : List RecordEntry) → more ≡ entries ++ record { action = Synced; cut = None } ∷ [] →
    events_of more ≡ events_of entries ++ synced ∷ []
past_synced entries more is = ap events_of is ∙ events_of-append entries (record { action = Synced; cut = None } ∷ [])

-- the entries of i sectors and of one more are those of i + 1 sectors
pub entries_more : (old now new : List RecordEntry) (at i : ℕ) (from bytes : List ℕ) → now ≡ old ++ entries_of at i from →
    new ≡ now ++ record { action = Wrote (at + i) bytes; cut = None } ∷ [] → bytes ≡ image_of from i
    → new ≡ old ++ entries_of at (i + 1) from
entries_more old now new at i from bytes before more same = grind (arith, nat_tests, append_assoc)

pub length-marked : (outcome : Outcome) (es : List RecordEntry) → length (marked outcome es) ≡ length es
length-marked outcome [] = refl
length-marked outcome (x ∷ []) = refl
length-marked outcome (x ∷ (y ∷ es)) = ap suc (length-marked outcome (y ∷ es))

quiet_one : (outcome : Outcome) (e : Event) (c : Option Outcome)
    → (e ∷ cut (unwrap_or c outcome) ∷ [] ≡ (e ∷ (mark_of c ++ [])) ++ cut outcome ∷ []) ⊎
    ((e ∷ cut (unwrap_or c outcome) ∷ [] ≡ e ∷ (mark_of c ++ [])) × IsQuiet (e ∷ (mark_of c ++ [])))
quiet_one outcome e None = inl refl
quiet_one outcome e (Some o) = inr (refl, inr (e ∷ [], o, refl))

quiet_behind : (xs ys : List Event) (y : Event) → IsQuiet (y ∷ ys) → IsQuiet (xs ++ y ∷ ys)
quiet_behind xs ys y (inl never) = cc
quiet_behind xs ys y (inr last) = inr (
  xs ++ last.0,
  last.1,
  ap (λ (l : List Event). xs ++ l) last.2
      ∙ sym (append_assoc xs last.0 (cut last.1 ∷ [])),
)

-- setting a mark adds one event, unless nothing happened since the last cut
pub events_of-marked : (outcome : Outcome) (es : List RecordEntry) → EndsCut outcome (events_of es) (events_of (marked outcome es))
events_of-marked outcome [] = inr (refl, inl refl)
events_of-marked outcome (x ∷ []) = quiet_one outcome (event_of x.action) x.cut
events_of-marked outcome (x ∷ (y ∷ es)) =
    ⊎_elim
    (λ more. inl (ap (λ (l : List Event). entry_events x ++ l) more ∙ sym (append_assoc (entry_events x) (events_of (y ∷ es))
    (cut outcome ∷ []))))
    (λ same. inr (
      ap (λ (l : List Event). entry_events x ++ l) same.0,
      quiet_behind (entry_events x) (mark_of y.cut ++ events_of es) (event_of y.action)
          same.1,
    ))
    (events_of-marked outcome (y ∷ es))

-- a power cut adds its event to the record's, or none if nothing happened since the last cut
pub past_cut : (outcome : Outcome) (entries more : List RecordEntry) → more ≡ marked outcome entries →
    EndsCut outcome (events_of entries) (events_of more)
past_cut outcome entries more is = grind (arith, nat_tests, events_of-marked)
