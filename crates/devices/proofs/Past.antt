-- How a device with a record changes with time.
use Rattle.devices.proofs.Names.{nat_tests, ℕ, zero, suc, Bool, false, List, [], take, refl, sym, ap, arith, inl, ⊎_elim, length-append, take-append-le}
use Rattle.devices.proofs.Names.{take_all, cases_lt, eq-eqb, ne_eqb, Image, image_of, Elapses, Event, wrote, State, at_first, after, replay, disk_of, writes_of}
use Rattle.devices.proofs.Names.{IsQuiet}
use Rattle.std.proofs.Common.{◌≡◌, ◌<◌, ◌≤◌, ◌+◌, if◌then◌else◌, ◌∷◌, ◌++◌, ◌∙◌}

-- replaying xs ++ ys is replaying xs, then ys
pub replay-append : (s : State) (xs ys : List Event) → replay s (xs ++ ys) ≡ replay (replay s xs) ys
replay-append s [] ys = refl
replay-append s (x ∷ xs) ys = replay-append (after s x) xs ys

module _ (sectors : ℕ) (first : Image) where
  -- the state after the first k events
  abbrev state_at : List Event → ℕ → State
  state_at past k = replay (at_first first) (take k past)

  -- time goes on if no event is added
  pub elapses_still : (past : List Event) (failures risen : ℕ) → Elapses (disk_of sectors first past failures)
      (disk_of sectors first past risen)
  elapses_still past failures risen = record { later = omega arith; nothing_else = λ t c le left. inl left; keeps = λ t c le left. left }

  -- time goes on if one event is added
  pub elapses_one : (past : List Event) (e : Event) (failures risen : ℕ) →
      Elapses (disk_of sectors first past failures) (disk_of sectors first (past ++ e ∷ []) risen)
  elapses_one past e failures risen = grind (arith, nat_tests, length-append, take_all, take-append-le)

-- replaying one more event is `after` on the state before
pub replay-one : (s : State) (xs : List Event) (e : Event) → replay s (xs ++ e ∷ []) ≡ after (replay s xs) e
replay-one s xs e = replay-append s xs (e ∷ [])

-- a write doesn't change the durable sectors
pub written-durable : (s : State) (at n : ℕ) (bytes : List ℕ) → (replay s (writes_of at n bytes)).durable ≡ s.durable
written-durable s at zero bytes = refl
written-durable s at (suc n) bytes =
    ap (λ (t : State). t.durable) (replay-one s (writes_of at n bytes) (wrote (at + n) (image_of bytes n))) ∙ written-durable s at n bytes

pub written-present_before : (s : State) (at n : ℕ) (bytes : List ℕ) (i : ℕ) → i < at →
    (replay s (writes_of at n bytes)).present i ≡ s.present i
written-present_before s at zero bytes i lt = refl
written-present_before s at (suc n) bytes i lt =
    ap (λ (t : State). t.present i) (replay-one s (writes_of at n bytes) (wrote (at + n) (image_of bytes n)))
    ∙ ap (λ (b : Bool). if b then image_of bytes n else (replay s (writes_of at n bytes)).present i)
    (ne_eqb i (at + n) (λ e. omega (arith, e, lt)))
    ∙ written-present_before s at n bytes i lt

pub written-present_after : (s : State) (at n : ℕ) (bytes : List ℕ) (i : ℕ) → at + n ≤ i →
    (replay s (writes_of at n bytes)).present i ≡ s.present i
written-present_after s at zero bytes i le = refl
written-present_after s at (suc n) bytes i le =
    ap (λ (t : State). t.present i) (replay-one s (writes_of at n bytes) (wrote (at + n) (image_of bytes n)))
    ∙ ap (λ (b : Bool). if b then image_of bytes n else (replay s (writes_of at n bytes)).present i)
    (ne_eqb i (at + n) (λ e. omega (arith, e, le)))
    ∙ written-present_after s at n bytes i (omega (arith, le))

pub written-present_inside : (s : State) (at n : ℕ) (bytes : List ℕ) (j : ℕ) → j < n →
    (replay s (writes_of at n bytes)).present (at + j) ≡ image_of bytes j
written-present_inside s at zero bytes j lt = absurd (omega arith)
written-present_inside s at (suc n) bytes j lt =
    ap (λ (t : State). t.present (at + j)) (replay-one s (writes_of at n bytes) (wrote (at + n) (image_of bytes n)))
    ∙ ⊎_elim
    (λ below.
    ap (λ (b : Bool). if b then image_of bytes n else (replay s (writes_of at n bytes)).present (at + j))
    (ne_eqb (at + j) (at + n) (λ e. omega (arith, e, below)))
    ∙ written-present_inside s at n bytes j below)
    (λ last.
    let here : j ≡ n = omega arith in
    ap (λ (b : Bool). if b then image_of bytes n else (replay s (writes_of at n bytes)).present (at + j))
    (eq-eqb (at + j) (at + n) (omega (arith, here)))
    ∙ ap (λ (k : ℕ). image_of bytes k) (sym here))
    (cases_lt j n)

-- if nothing has happened yet, or the last event is a power cut, no sector is unsynced
pub quiet-unsynced : (first : Image) (past : List Event) → IsQuiet past → (i : ℕ) → (replay (at_first first) past).unsynced i ≡ false
quiet-unsynced first past is i = grind (arith, nat_tests, replay-one)
