-- What `reach` writes.
use Rattle.queries.proofs.Names.{Format, Written, ℕ, List, Result, Err, sym, subst, Object, objects_of, Disk, SavedState, AreSoundObjects, Fault, ReachesImage}
use Rattle.queries.proofs.Names.{ReadsSaved, TellsReach, ReachQuestion, AreProcesses, AreStarts, TellsOf, is_process, Contains, slice_index_or, IsTrue, []}
use Rattle.queries.proofs.Names.{refl, length, false, get_or_default, find, IfSome, not, Option, None, Some, inr, IsFirstMissing}
use Rattle.std.specs.Prelude.{◌==◌}
use Rattle.std.proofs.Common.{◌≡◌, ◌↔◌, ◌∷◌}
use Rattle.jobs.specs.declared.fault.Fault.TheVariants as fault

-- if the answer about these processes was written, the question about the named ones was answered
pub tells_of_starts : (f : Format) (os : List Object) (named starts trusted : List ℕ) (q : ReachQuestion) (output output_left : Written) →
    AreStarts os named starts → (outcome : Result (Unit {0}) Fault) → TellsOf f os starts trusted q output output_left outcome →
    TellsReach f os named trusted q output output_left outcome
tells_of_starts f os named starts trusted q output output_left are (Err (fault.NoProcess p)) tells = absurd tells
tells_of_starts f os named starts trusted q output output_left are (Err fault.NoMemory) tells = tells
tells_of_starts f os named starts trusted q output output_left are outcome tells = (starts, are, tells)

-- if the list has exactly the processes, all its numbers are processes
pub listed_processes : (os : List Object) (all : List ℕ) → ((n : ℕ) → Contains all n ↔ IsTrue (is_process os n)) → AreProcesses os all
listed_processes os all each k d lt = (each (slice_index_or all k d)).0 (k, lt, get_or_default all k (slice_index_or all k d) d lt)

-- if some processes are named, they are the starts
pub named_starts : (os : List Object) (named : List ℕ) → (length named == 0) ≡ false → AreProcesses os named → AreStarts os named named
named_starts os [] some are = absurd (cc)
named_starts os (p ∷ ps) some are = (refl, are)

-- if all named numbers are processes, the first missing one is among the trusted
pub missing_trusted : (os : List Object) (named trusted : List ℕ) (r : Option ℕ) → r ≡ find (λ n. not (is_process os n)) trusted →
    AreProcesses os named → IfSome r (IsFirstMissing os named trusted)
missing_trusted os named trusted None is all = tt
missing_trusted os named trusted (Some p) is all = inr (all, sym is)

module _ {D : Type 0} {disk : D → Disk} {device back : D} {s : SavedState} (reads : ReadsSaved disk device back s) (objects : List Object)
    (are : objects ≡ objects_of s.frames) where
  -- the saved objects are those of a sound world
  pub objects_sound : AreSoundObjects objects
  objects_sound = subst AreSoundObjects (sym are) (s.plan.geometry, s.header.age, reads.sound.sound)

  pub reaches_image : (f : Format) (named trusted : List ℕ) (q : ReachQuestion) (output output_left : Written)
      (outcome : Result (Unit {0}) Fault) → TellsReach f objects named trusted q output output_left outcome →
      ReachesImage f disk named trusted q device back output output_left outcome
  reaches_image f named trusted q output output_left (Err (fault.Open why)) tells = absurd tells.2
  reaches_image f named trusted q output output_left outcome tells =
      (s, reads, subst (λ (os : List Object). TellsReach f os named trusted q output output_left outcome) are tells)
