-- A session is a run of the machine.
use Rattle.std.proofs.Common.{◌≡◌, ◌∷◌, ◌++◌, ℕ, Bool, List, [], Option, Result, Ok, Err, length, refl, suc, sym, ap, subst, ⊎_elim, false, true}
use Rattle.capability.specs.Parts.{Parts}
use Rattle.checkpoint.specs.Store.{View}
use Rattle.device.specs.Disk.{Disk}
use Rattle.kernel.specs.Power.{Power}
use Rattle.kernel.specs.Standing.{Stands}
use Rattle.model.specs.Machine.{Machine}
use Rattle.model.specs.Run.{Turn}
use Rattle.model.specs.declared.answer.Answer.{Answer}
use Rattle.model.specs.declared.answer.Refusal.{Refusal}
use Rattle.model.specs.declared.command.Command.{Command}
use Rattle.model.specs.declared.command.Command.TheVariants as command
use Rattle.model.specs.declared.geometry.Geometry.{Geometry}
use Rattle.runs.proofs.Joined.{joined}
use Rattle.runs.specs.KernelRuns.{IsRunOf}
use Rattle.runs.specs.Saving.{CarriesOut, CarriesOutAll, Moves, all_objects, commit_stages}
use Rattle.script.specs.Writing.{Written, Wrote}
use Rattle.script.specs.declared.fault.RunFault.{RunFault}
use Rattle.shell.specs.Laws.{SessionsAreRuns}
use Rattle.shell.specs.Listing.{AreListed, EndsList, Lists}
use Rattle.shell.specs.Sessions.{AreServed, Finishes, HasServed, Inspects, Serves, ServesFrom, Session, StepsBy}
use Rattle.shell.specs.declared.help.Topic.{Topic}
use Rattle.shell.specs.declared.request.Request.{Request}
use Rattle.shell.specs.declared.request.Request.TheVariants as request

module _ {D S : Type 0} (disk : D → Disk) (view : S → View D) (parts : S → Parts) (inspects : Inspects D) where
  module _ (g : Geometry) where
    -- for each machine that the old kernel stands for, some turns are a run of it that ends at the new kernel
    abbrev Runs : Power D S → Power D S → Type 0
    Runs old new = (m : Machine) → Stands disk view parts g old m → (turns : List Turn) × IsRunOf disk view parts g m old new turns

    stays : (old new : Power D S) → new ≡ old → Runs old new
    stays old new same m stands = (
      [],
      record { after = m; run = refl; stands = subst (λ (p : Power D S). Stands disk view parts g p m) (sym same) stands; each = same },
    )

    joins : (old mid new : Power D S) → Runs old mid → Runs mid new → Runs old new
    joins old mid new first then m stands =
        let a = first m stands in
        let b = then a.1.after a.1.stands in
        (a.0 ++ b.0, joined disk view parts g m old mid new a.0 b.0 a.1 b.1)

    stage : (old new : Power D S) (c : Command) (r : Result Answer Refusal) → CarriesOut disk view parts old c new r → Runs old new
    stage old new c r carries m stands = let is = carries g m stands in (is.0 ∷ [], is.1)

    stages : (cs : List Command) (old new : Power D S) (r : Result Answer Refusal) → CarriesOutAll disk view parts old cs new r →
        Runs old new
    stages [] old new r carries = absurd carries
    stages (c ∷ []) old new r carries = stage old new c r carries
    stages (c ∷ d ∷ cs) old new r carries = ⊎_elim
        (λ refused. stage old new c (Err refused.0) refused.2)
        (λ goes. joins old goes.0 new (stage old goes.0 c (Ok goes.1) goes.2) (stages (d ∷ cs) goes.0 new r goes.3))
        carries

    moves : (committed : Result Answer Refusal) (old new : Power D S) (r : Result Answer Refusal) →
        Moves disk view parts committed old new r → Runs old new
    moves (Ok a) old new r is = stage old new (command.Migrate all_objects) is.0 is.1
    moves (Err why) old new r is = stays old new is.0

    listed : (n : ℕ) (more : List Answer) (old new : Power D S) (output output_left : Written) →
        AreListed disk view parts n more old new output output_left → Runs old new
    listed n [] old new output output_left is = stays old new is.0
    listed n (a ∷ more) old new output output_left (next, between, carries, wrote, is) =
        joins old next new (stage old next (command.Show n) (Ok a) carries) (listed (suc n) more next new between output_left is)

    ends_list : (n : ℕ) (old new : Power D S) (output output_left : Written) (r : Result (Unit {0}) RunFault) →
        EndsList disk view parts n old new output output_left r → Runs old new
    ends_list n old new output output_left r is = ⊎_elim
        (λ last. stays old new last.1)
        (λ not. ⊎_elim
        (λ refused. stage old new (command.Show n) (Err refused.0) refused.1)
        (λ failed. stage old new (command.Show n) (Ok failed.0) failed.2)
        not)
        is

    lists : (old new : Power D S) (output output_left : Written) (r : Result (Unit {0}) RunFault) →
        Lists disk view parts old new output output_left r → Runs old new
    lists old new output output_left r (answers, between, written, are, ends) =
        joins old between new (listed 0 answers old between output written are)
        (ends_list (length answers) between new written output_left r ends)

    serves : (topics : List Topic) (prompts : Bool) (req : Request) (line : List ℕ) (s t : Session D S) (r : Result Bool RunFault) →
        Serves disk view parts inspects topics prompts req line s t r → Runs s.kernel t.kernel
    serves topics prompts request.Pass line s t r is = λ m stands. (let ran = is.1 g m stands in (ran.0 ∷ [], ran.2))
    serves topics prompts (request.Help word) line s t r is = stays s.kernel t.kernel is.3
    serves topics prompts request.List line s t r is = lists s.kernel t.kernel s.output t.output is.0 is.1
    serves topics prompts request.Save line s t r is =
        joins s.kernel is.1.0 t.kernel (stages commit_stages s.kernel is.1.0 is.1.1 is.1.2) (moves is.1.1 is.1.0 t.kernel is.0 is.1.3)
    serves topics prompts request.Inspect line s t r is = stays s.kernel t.kernel is.6
    serves topics prompts request.Quit line s t r is = stays s.kernel t.kernel is.3

    step : (topics : List Topic) (prompts : Bool) (line : List ℕ) (s t : Session D S) (r : Result Bool RunFault) →
        StepsBy disk view parts inspects topics prompts line s t r → Runs s.kernel t.kernel
    step topics prompts line s t r (prompted, noted, (req, requested, is)) =
        serves topics prompts req line (record s { notes = prompted }) t r is

    served : (topics : List Topic) (prompts : Bool) (lines : List (List ℕ)) (s t : Session D S) →
        AreServed disk view parts inspects topics prompts lines s t → Runs s.kernel t.kernel
    served topics prompts [] s t same = stays s.kernel t.kernel (ap (λ (x : Session D S). x.kernel) same)
    served topics prompts (l ∷ ls) s t is =
        joins s.kernel is.0.kernel t.kernel (step topics prompts l s is.0 (Ok true) is.1) (served topics prompts ls is.0 t is.2)

    finishes : (topics : List Topic) (prompts : Bool) (last : List (List ℕ)) (ahead : Option (List (List ℕ))) (s t : Session D S)
        (r : Result (Unit {0}) RunFault) → Finishes disk view parts inspects topics prompts last ahead s t r → Runs s.kernel t.kernel
    finishes topics prompts [] ahead s t (Ok u) is = stays s.kernel t.kernel (ap (λ (x : Session D S). x.kernel) is.4)
    finishes topics prompts [] ahead s t (Err e) is = stays s.kernel t.kernel (ap (λ (x : Session D S). x.kernel) is.2)
    finishes topics prompts (l ∷ []) ahead s t (Ok u) is = step topics prompts l s t (Ok false) is
    finishes topics prompts (l ∷ []) ahead s t (Err e) is = step topics prompts l s t (Err e) is
    finishes topics prompts (l ∷ k ∷ ls) ahead s t r is = absurd is

    has_served : (topics : List Topic) (prompts : Bool) (ahead ahead_left : Option (List (List ℕ))) (s t : Session D S)
        (r : Result (Unit {0}) RunFault) → HasServed disk view parts inspects topics prompts ahead ahead_left s t r → Runs s.kernel t.kernel
    has_served topics prompts ahead ahead_left s t r is =
        joins s.kernel is.2.kernel t.kernel (served topics prompts is.0 s is.2 is.4) (finishes topics prompts is.1 ahead_left is.2 t r is.5)

    begins : (topics : List Topic) (prompts : Bool) (ahead ahead_left : Option (List (List ℕ))) (s t : Session D S)
        (r : Result (Unit {0}) RunFault) → (begun : Written) × Wrote s.output begun []
        × HasServed disk view parts inspects topics prompts ahead ahead_left (record s { output = begun }) t r → Runs s.kernel t.kernel
    begins topics prompts ahead ahead_left s t r (begun, wrote, is) =
        has_served topics prompts ahead ahead_left (record s { output = begun }) t r is

  pub sessions_run : SessionsAreRuns disk view parts inspects
  sessions_run topics prompts ahead ahead_left s t r serves g = ⊎_elim
      (begins g topics prompts ahead ahead_left s t r)
      (λ failed. stays g s.kernel t.kernel (ap (λ (x : Session D S). x.kernel) failed.3))
      serves
