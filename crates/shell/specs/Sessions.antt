-- Sessions: what a shell does over a kernel, line by line.
use Rattle.std.specs.Prelude.{◌≡◌, ◌⊎◌, ◌&&◌, ◌||◌, ◌∷◌, ◌++◌, ℕ, Bool, true, false, not, List, [], codes, Option, None, Result, Ok, Err}
use Rattle.capability.specs.Parts.{Parts}
use Rattle.checkpoint.specs.Store.{View}
use Rattle.device.specs.Disk.{Disk}
use Rattle.kernel.specs.Power.{Power}
use Rattle.kernel.specs.Standing.{IsDeviceOf}
use Rattle.model.specs.Text.{line_of, refusal_text}
use Rattle.model.specs.declared.answer.Answer.{Answer}
use Rattle.model.specs.declared.answer.Refusal.{Refusal}
use Rattle.runs.specs.OneLine.{RunsLine}
use Rattle.runs.specs.Saving.{CarriesOutAll, Moves, commit_stages}
use Rattle.runs.specs.Unsaved.{nothing_unsaved}
use Rattle.runs.specs.declared.unsaved.Unsaved.{Unsaved}
use Rattle.script.specs.Writing.{Writes, Written, Wrote, WroteFront}
use Rattle.script.specs.declared.fault.RunFault.{RunFault}
use Rattle.script.specs.declared.fault.RunFault.TheVariants as fault
use Rattle.shell.specs.Listing.{Lists}
use Rattle.shell.specs.Lines.{IsRequest, NoneAhead, Takes}
use Rattle.shell.specs.Served.{Notes, WritesHelp, question}
use Rattle.shell.specs.Watching.{NotesRemark, Watches}
use Rattle.shell.specs.declared.help.Topic.{Topic}
use Rattle.shell.specs.declared.request.Request.{Request}
use Rattle.shell.specs.declared.request.Request.TheVariants as request
use Rattle.shell.specs.declared.session.Shell.{Shell}
use Rattle.shell.specs.declared.watch.Remark.{Remark}
use Rattle.shell.specs.declared.watch.Watch.{Watch}

-- The state of a session: the kernel, what isn't committed, whether the shell has just asked about unsaved work, and
-- what was written to the notes and the output.
pub record Session (D S : Type 0) : Type 0 where
  pub kernel : Power D S
  pub unsaved : Unsaved
  pub is_asked : Bool
  pub notes : Written
  pub output : Written

abbrev pub session_at : {V D S : Type 0} → (V → Written) → Shell V → Power D S → Written → Session D S
session_at written shell kernel output = record {
  kernel = kernel;
  unsaved = shell.unsaved;
  is_asked = shell.is_asked;
  notes = written shell.notes;
  output = output;
}

-- the session after its notes changed
abbrev pub noting : {D S : Type 0} → Session D S → Written → Session D S
noting s notes = record s { notes = notes }

-- an observer that knows what isn't committed, and has made no remark
abbrev pub watching : Unsaved → Watch
watching unsaved = record { unsaved = unsaved; remark = None }

-- if the line was answered, the remark about it was written to the notes
abbrev pub Remarks : Result Bool RunFault → Option Remark → Written → Written → Type 0
Remarks (Ok on) remark old new = NotesRemark remark old new
Remarks (Err e) remark old new = new ≡ old

-- the answer to `save`
abbrev pub saved_text : Result Answer Refusal → List ℕ
saved_text (Ok a) = codes "saved"
saved_text (Err why) = refusal_text why

-- what isn't committed after a save: if it succeeded, nothing
abbrev pub unsaved_if : Result Answer Refusal → Unsaved → Unsaved
unsaved_if (Ok a) before = nothing_unsaved
unsaved_if (Err why) before = before

-- if the answer was written, the shell goes on
abbrev pub goes_on_if : Result (Unit {0}) RunFault → Result Bool RunFault
goes_on_if (Ok u) = Ok true
goes_on_if (Err e) = Err e

-- For a device and a line, how an inspector changes the output and the notes, and whether the output took all.
abbrev pub Inspects : Type 0 → Type 1
Inspects D = D → List ℕ → Written → Written → Written → Written → Result (Unit {0}) RunFault → Type 0

-- an answer that was written was passed on, or passing it on failed
abbrev pub IsPassedOn : Result (Unit {0}) RunFault → Written → Written → Result Bool RunFault → Type 0
IsPassedOn (Ok u) between new (Ok on) = (on ≡ true) × Wrote between new []
IsPassedOn (Ok u) between new (Err e) = (e ≡ fault.Write) × WroteFront between new []
IsPassedOn (Err e) between new r = (new ≡ between) × (r ≡ Err e)

-- whether the shell asks before it ends: it prompts, hasn't just asked, and something isn't committed
abbrev pub is_to_ask : Bool → Unsaved → Bool → Bool
is_to_ask prompts unsaved asked = (prompts && not asked) && (unsaved.present || unsaved.frozen)

-- `quit` or `exit`: the shell asked and goes on, or it ends
abbrev pub Quits : Bool → Unsaved → Bool → Bool → Written → Written → Bool → Type 0
Quits prompts unsaved was_asked is_asked before after on =
    (on ≡ is_to_ask prompts unsaved was_asked) × (is_asked ≡ on) × Notes on question before after

-- The parameters: the ghost members of a device and of an object store.
module _ {D S : Type 0} (disk : D → Disk) (view : S → View D) (parts : S → Parts) where
  -- the present state was saved by the stages of `eros run --save`; or a stage was refused, and none came after it
  abbrev pub SavesAll : Power D S → Power D S → Unsaved → Unsaved → Result Answer Refusal → Type 0
  SavesAll old new before after r = (next : Power D S) × (committed : Result Answer Refusal)
      × CarriesOutAll disk view parts old commit_stages next committed × Moves disk view parts committed next new r
      × (after ≡ unsaved_if committed before)

  -- the line was run alone over the kernel, and the remark about it was written
  abbrev pub RunsIn : List ℕ → Session D S → Session D S → Result Bool RunFault → Type 0
  RunsIn line s t r = (seen : Watch)
      × RunsLine disk view parts Watches line s.kernel t.kernel (watching s.unsaved) seen s.output t.output r
      × (t.unsaved ≡ seen.unsaved) × Remarks r seen.remark s.notes t.notes × (t.is_asked ≡ false)

  -- the present state was saved or not, and the answer says which
  abbrev pub SavesIn : Session D S → Session D S → Result Bool RunFault → Type 0
  SavesIn s t r = (saved : Result Answer Refusal) × SavesAll s.kernel t.kernel s.unsaved t.unsaved saved
      × (wrote : Result (Unit {0}) RunFault) × Writes s.output t.output wrote (line_of (saved_text saved)) × (r ≡ goes_on_if wrote)
      × (t.notes ≡ s.notes) × (t.is_asked ≡ false)

  -- all objects were listed
  abbrev pub ListsIn : Session D S → Session D S → Result Bool RunFault → Type 0
  ListsIn s t r = (wrote : Result (Unit {0}) RunFault) × Lists disk view parts s.kernel t.kernel s.output t.output wrote
      × (r ≡ goes_on_if wrote) × (t.unsaved ≡ s.unsaved) × (t.notes ≡ s.notes) × (t.is_asked ≡ false)

  -- The parameter: the ghost member of an inspector.
  module _ (inspects : Inspects D) where
    -- a question about what is saved was answered, and the answer passed on
    abbrev pub InspectsIn : List ℕ → Session D S → Session D S → Result Bool RunFault → Type 0
    InspectsIn line s t r = (device : D) × IsDeviceOf disk view parts s.kernel device × (between : Written)
        × (answered : Result (Unit {0}) RunFault) × inspects device line s.output between s.notes t.notes answered
        × IsPassedOn answered between t.output r × (t.kernel ≡ s.kernel) × (t.unsaved ≡ s.unsaved) × (t.is_asked ≡ false)

    -- the shell did what the line asks for
    abbrev pub Serves : List Topic → Bool → Request → List ℕ → Session D S → Session D S → Result Bool RunFault → Type 0
    Serves topics prompts request.Pass line s t r = RunsIn line s t r
    Serves topics prompts (request.Help word) line s t r = WritesHelp topics word.now s.notes t.notes × (r ≡ Ok true)
        × (t.is_asked ≡ false) × (t.kernel ≡ s.kernel) × (t.unsaved ≡ s.unsaved) × (t.output ≡ s.output)
    Serves topics prompts request.List line s t r = ListsIn s t r
    Serves topics prompts request.Save line s t r = SavesIn s t r
    Serves topics prompts request.Inspect line s t r = InspectsIn line s t r
    Serves topics prompts request.Quit line s t r =
        (on : Bool) × Quits prompts s.unsaved s.is_asked t.is_asked s.notes t.notes on × (r ≡ Ok on)
        × (t.kernel ≡ s.kernel) × (t.unsaved ≡ s.unsaved) × (t.output ≡ s.output)

    -- the shell did what the line asks for; the result says whether it goes on
    abbrev pub ServesLine : List Topic → Bool → List ℕ → Session D S → Session D S → Result Bool RunFault → Type 0
    ServesLine topics prompts line s t r =
        (request : Request) × IsRequest line request × Serves topics prompts request line s t r

    -- the shell prompted, and then did what the line asks for
    abbrev pub StepsBy : List Topic → Bool → List ℕ → Session D S → Session D S → Result Bool RunFault → Type 0
    StepsBy topics prompts line s t r = (prompted : Written) × Notes prompts (codes "eros> ") s.notes prompted
        × ServesLine topics prompts line (noting s prompted) t r

    -- these lines were served one after another, and the shell went on after each
    abbrev pub AreServed : List Topic → Bool → List (List ℕ) → Session D S → Session D S → Type 0
    AreServed topics prompts [] s t = t ≡ s
    AreServed topics prompts (l ∷ ls) s t =
        (next : Session D S) × StepsBy topics prompts l s next (Ok true) × AreServed topics prompts ls next t

    -- How a session ends: by its last line; or without one, at the end of the input or because a read failed. At the
    -- end of the input a newline ends the line of the prompt.
    abbrev pub Finishes : List Topic → Bool → List (List ℕ) → Option (List (List ℕ)) → Session D S → Session D S →
        Result (Unit {0}) RunFault → Type 0
    Finishes topics prompts [] ahead s t (Ok u) = NoneAhead ahead × (prompted : Written)
        × Notes prompts (codes "eros> ") s.notes prompted × Notes prompts (codes "\n") prompted t.notes × (t ≡ noting s t.notes)
    Finishes topics prompts [] ahead s t (Err e) = (e ≡ fault.Read) × Notes prompts (codes "eros> ") s.notes t.notes
        × (t ≡ noting s t.notes)
    Finishes topics prompts (l ∷ []) ahead s t (Ok u) = StepsBy topics prompts l s t (Ok false)
    Finishes topics prompts (l ∷ []) ahead s t (Err e) = StepsBy topics prompts l s t (Err e)
    Finishes topics prompts (l ∷ k ∷ ls) ahead s t r = ⊥

    -- some lines ahead were read and served, and then the session ended
    abbrev pub HasServed : List Topic → Bool → Option (List (List ℕ)) → Option (List (List ℕ)) → Session D S → Session D S →
        Result (Unit {0}) RunFault → Type 0
    HasServed topics prompts ahead ahead_left s t r = (lines : List (List ℕ)) × (last : List (List ℕ)) × (between : Session D S)
        × Takes ahead ahead_left (lines ++ last) × AreServed topics prompts lines s between
        × Finishes topics prompts last ahead_left between t r

    -- earlier answers were passed on, and then lines were served; or passing them on failed, and no line was read
    abbrev pub ServesFrom : List Topic → Bool → Option (List (List ℕ)) → Option (List (List ℕ)) → Session D S → Session D S →
        Result (Unit {0}) RunFault → Type 0
    ServesFrom topics prompts ahead ahead_left s t r =
        ((begun : Written) × Wrote s.output begun [] × HasServed topics prompts ahead ahead_left (record s { output = begun }) t r)
        ⊎ ((r ≡ Err fault.Write) × (ahead_left ≡ ahead) × WroteFront s.output t.output [] × (t ≡ record s { output = t.output }))
