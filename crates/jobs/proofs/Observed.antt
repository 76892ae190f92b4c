-- Where an observer ended a run, and how the command ends.
use Rattle.jobs.proofs.Names.{Written, ℕ, Bool, true, false, List, [], Option, None, Some, Ok, Err, refl, sym, ⊎_elim, Geometry, Up, opened, Turn, Disk, Parts}
use Rattle.jobs.proofs.Names.{OpenFault, View, Stop, Tracer, AreSeen, Ends, Sees, RunFault, Fault, HasStop, IsRunEnd, OpensAndRuns, OpensAndSees, RunsImage}
use Rattle.jobs.proofs.Names.{SeesImage, Result, IfErr, SavesImage}
use Rattle.std.proofs.Common.{◌≡◌, ◌≢◌, ◌∷◌, ◌∙◌}
use Rattle.script.specs.declared.fault.RunFault.TheVariants as run

-- if an observer never ends a run, the run went on to its end
goes_on_to_end : {O : Type 0} (sees : Turn → O → O → Bool → Type 0) → ((t : Turn) (old new : O) (on : Bool) → sees t old new on → on ≡ true)
    → (first last : O) (turns : List Turn) (on : Bool) → AreSeen sees first last turns on → on ≡ true
goes_on_to_end sees always first last [] on seen = seen.1
goes_on_to_end sees always first last (t ∷ ts) on seen =
    ⊎_elim (λ goes. goes_on_to_end sees always goes.0 last ts on goes.2) (λ ends. ends.1 ∙ always t first last false ends.2) seen

-- if a tracer ended a run, it knows where
has_ended : {V : Type 0} (written : V → Written) (g : Geometry) (first last : Tracer V) (turns : List Turn) (on : Bool) →
    AreSeen (Sees written g) first last turns on → on ≡ false →
    (stop : Stop) × (last.stop ≡ Some stop)
has_ended written g first last [] on seen ended = let never : true ≡ false = sym seen.1 ∙ ended in absurd cc
has_ended written g first last (t ∷ ts) on seen ended =
    ⊎_elim (λ goes. has_ended written g goes.0 last ts on goes.2 ended) (λ ends. found first.options.strict last.stop last.line ends.2.ends)
    seen
  where
    found : (strict : Bool) (stop : Option Stop) (place : ℕ) → Ends g place t strict false stop → (s : Stop) × (stop ≡ Some s)
    found false stop place never = absurd cc
    found true None place never = absurd never
    found true (Some stop) place ends = (stop, refl)

-- if the observer didn't end the run, the outcome needs no place where the run stopped
pub unstopped : (outcome : Result (Unit {0}) RunFault) → IfErr outcome (λ e. e ≢ run.Stopped) → HasStop (Ok outcome) None
unstopped (Ok u) is = tt
unstopped (Err run.Read) is = tt
unstopped (Err run.Write) is = tt
unstopped (Err run.Stopped) is = absurd (is refl)

module _ {D S : Type 0} (disk : D → Disk) (view : S → View D) (parts : S → Parts) (device back : D) where
  module _ {O : Type 0} (sees : Geometry → Turn → O → O → Bool → Type 0) (before after : O) (input input_left : Option (List ℕ))
      (output output_left : Written) where
    -- if an observer never ends a run, the outcome needs no place where the run stopped
    pub needs_no_stop : ((g : Geometry) (t : Turn) (old new : O) (on : Bool) → sees g t old new on → on ≡ true) →
        (outcome : Result (Result (Unit {0}) RunFault) OpenFault) →
        SeesImage disk view parts sees device back before after input input_left output output_left outcome → HasStop outcome None
    needs_no_stop always (Ok (Err run.Stopped)) seen =
        let r = seen.3 seen.2.geometry (Up (opened seen.2.geometry seen.2.saved)) seen.2.stands in
        let never : true ≡ false = sym (goes_on_to_end (sees seen.2.geometry) (always seen.2.geometry) before after r.0 r.3 r.4) ∙ r.5 in
        absurd cc
    needs_no_stop always outcome seen = tt

    opens_and_runs : (outcome : Result (Unit {0}) RunFault) → OpensAndSees disk view parts sees device back before after input input_left
        output output_left outcome →
        OpensAndRuns disk view parts device back input input_left output output_left outcome
    opens_and_runs outcome seen = (seen.0, seen.1, seen.2, λ g m stands. let r = seen.3 g m stands in (r.0, r.1, r.2), seen.4)

    pub runs_unseen : (outcome : Result (Result (Unit {0}) RunFault) OpenFault) (end : Result (Unit {0}) Fault) →
        IsRunEnd outcome None end → SeesImage disk view parts sees device back before after input input_left output output_left outcome →
        RunsImage disk view parts device back input input_left output output_left end
    runs_unseen (Ok (Ok a)) end is seen = rw is (opens_and_runs (Ok a) seen)
    runs_unseen (Ok (Err run.Read)) end is seen = rw is (opens_and_runs (Err run.Read) seen)
    runs_unseen (Ok (Err run.Write)) end is seen = rw is (opens_and_runs (Err run.Write) seen)
    runs_unseen (Ok (Err run.Stopped)) end is seen = absurd is
    runs_unseen (Err why) end is seen = rw is (seen.0, seen.1, seen.2)

  -- if a tracer ended a run that is to be saved at its end, it knows where
  pub saver_has_stop : {V : Type 0} (written : V → Written) (before after : Tracer V) (input input_left : Option (List ℕ))
      (output output_left : Written) (outcome : Result (Result (Unit {0}) RunFault) OpenFault) (saved : Result (Unit {0}) Fault) →
      SavesImage disk view parts (Sees written) device back before after input input_left output output_left outcome saved →
      HasStop outcome after.stop
  saver_has_stop written before after input input_left output output_left (Ok (Err run.Stopped)) saved seen =
      let r = seen.5 seen.3.geometry (Up (opened seen.3.geometry seen.3.saved)) seen.3.stands in
      rw (has_ended written seen.3.geometry before after r.0 r.3 r.4 r.5).1 tt
  saver_has_stop written before after input input_left output output_left outcome saved seen = tt

  -- if a tracer ended a run, it knows where
  pub tracer_has_stop : {V : Type 0} (written : V → Written) (before after : Tracer V) (input input_left : Option (List ℕ))
      (output output_left : Written) (outcome : Result (Result (Unit {0}) RunFault) OpenFault) →
      SeesImage disk view parts (Sees written) device back before after input input_left output output_left outcome →
      HasStop outcome after.stop
  tracer_has_stop written before after input input_left output output_left (Ok (Err run.Stopped)) seen =
      let r = seen.3 seen.2.geometry (Up (opened seen.2.geometry seen.2.saved)) seen.2.stands in
      rw (has_ended written seen.2.geometry before after r.0 r.3 r.4 r.5).1 tt
  tracer_has_stop written before after input input_left output output_left outcome seen = tt
