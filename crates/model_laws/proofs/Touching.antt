-- The touched numbers, and when a full log refuses an invocation or a store.
use Rattle.model_laws.proofs.Names.{nat_tests, ℕ, zero, suc, Bool, true, not, List, [], length, slice_get, Some, None, Ok, Err, Option, Result, inl, inr, refl}
use Rattle.model_laws.proofs.Names.{ap, arith, zero-lt-suc, Contains, Contains-append_right, MemoryFault, Refusal, Invocation, Geometry, is_running_process}
use Rattle.model_laws.proofs.Names.{Effect, invoke, touching, overfills, reached, refusal_of, unless, writable, TouchesWritten, LogFullIsExact}
use Rattle.model_laws.proofs.Names.{StoreLogFullIsExact}
use Rattle.std.proofs.Common.{◌≡◌, ◌⊎◌, ◌↔◌, ◌<◌, ◌^◌, ◌&&◌, ◌∷◌, ◌∙◌, slice_set, slice_index_or, IsTrue, length-set}
use Rattle.model.specs.Machine.{Running}
use Rattle.model.specs.declared.answer.Refusal.TheVariants as refusal
use Rattle.model.specs.declared.command.Command.TheVariants as command

-- once m is marked, each marked number is m or was marked before
marked : (xs : List Bool) (m n : ℕ) → slice_get (slice_set xs m true) n ≡ Some true → (slice_get xs n ≡ Some true) ⊎ (m ≡ n)
marked [] m n e = inl e
marked (x ∷ xs) zero zero e = inr refl
marked (x ∷ xs) zero (suc n) e = inl e
marked (x ∷ xs) (suc m) zero e = inl e
marked (x ∷ xs) (suc m) (suc n) e = elim (marked xs m n e) [ inl before ↦ inl before | inr same ↦ inr (ap suc same) ]

stays_marked : (xs : List Bool) (m n : ℕ) → slice_get xs n ≡ Some true → slice_get (slice_set xs m true) n ≡ Some true
stays_marked [] m n e = e
stays_marked (x ∷ xs) zero zero e = refl
stays_marked (x ∷ xs) zero (suc n) e = e
stays_marked (x ∷ xs) (suc m) zero e = e
stays_marked (x ∷ xs) (suc m) (suc n) e = stays_marked xs m n e

is_marked : (xs : List Bool) (n : ℕ) → n < length xs → slice_get (slice_set xs n true) n ≡ Some true
is_marked [] n h = absurd (omega arith)
is_marked (x ∷ xs) zero h = refl
is_marked (x ∷ xs) (suc n) h = is_marked xs n (omega arith)

pub touched_from : (xs : List Bool) (ns : List ℕ) (n : ℕ) → slice_get (touching xs ns) n ≡ Some true →
    (slice_get xs n ≡ Some true) ⊎ Contains ns n
touched_from xs [] n e = inl e
touched_from xs (m ∷ ns) n e = elim (touched_from (slice_set xs m true) ns n e) [
  | inl now ↦ elim (marked xs m n now) [ inl before ↦ inl before | inr same ↦ inr (0, zero-lt-suc _, same) ]
  | inr later ↦ inr (Contains-append_right (m ∷ []) ns n later)
]

pub stays_touched : (xs : List Bool) (ns : List ℕ) (n : ℕ) → slice_get xs n ≡ Some true → slice_get (touching xs ns) n ≡ Some true
stays_touched xs [] n e = e
stays_touched xs (m ∷ ns) n e = stays_touched (slice_set xs m true) ns n (stays_marked xs m n e)

-- each of the written numbers is touched
is_touched : (xs : List Bool) (ns : List ℕ) (n k : ℕ) → n < length xs → k < length ns → slice_index_or ns k n ≡ n →
    slice_get (touching xs ns) n ≡ Some true
is_touched xs [] n k h l e = absurd (omega arith)
is_touched xs (m ∷ ns) n zero h l e = grind (arith, nat_tests, stays_touched, is_marked)
is_touched xs (m ∷ ns) n (suc k) h l e = is_touched (slice_set xs m true) ns n k (rw length-set h) (omega arith) e

pub touches_written : TouchesWritten
touches_written xs ns n h = grind (arith, nat_tests, touched_from, stays_touched, is_touched)

refusal_is : (g : Geometry) (s : Running) (i : Invocation) (e : Effect) →
    IsTrue (is_running_process s.now.objects i.process) → s.now.age < 2 ^ 62 → invoke g s.now.objects i ≡ Some e →
    refusal_of g s (command.Invoke i) ≡ unless (not (overfills g s.touched e.written)) refusal.LogFull None
unfolding refusal_of
refusal_is g s i e p young effect = grind (arith, nat_tests)

pub log_full_is_exact : LogFullIsExact
log_full_is_exact g s i e p young effect = grind (arith, nat_tests, refusal_is)

-- if the process exists and runs, the refusal of a store is that of the later conditions
acts : (process running : Bool) (next : Option Refusal) → (process && running) ≡ true
    → unless process refusal.NoProcess (unless (process && running) refusal.NotRunning next) ≡ next
acts process running next p = grind (arith, nat_tests)

abbrev store_checks : Geometry → Running → Result ℕ MemoryFault → Option Refusal
store_checks g s (Ok page) = unless (not (overfills g s.touched (page ∷ []))) refusal.LogFull None
store_checks g s (Err why) = None

store_refusal_is : (g : Geometry) (s : Running) (p address value : ℕ) (found : Result ℕ MemoryFault) →
    IsTrue (is_running_process s.now.objects p) → writable (reached s.now.objects p address) ≡ found →
    refusal_of g s (command.Store p address value) ≡ store_checks g s found
unfolding refusal_of
store_refusal_is g s p address value found runs is = acts _ _ _ runs ∙ ap (store_checks g s) is

pub store_log_full_is_exact : StoreLogFullIsExact
store_log_full_is_exact g s p address value runs = grind (arith, nat_tests, store_refusal_is)
