-- Serving lines, one after another.
use Rattle.std.proofs.Common.{◌≡◌, ◌∷◌, ◌++◌, ◌∙◌, ℕ, Bool, true, List, [], Option, None, Some, Result, Ok, Err, inr, refl, sym, ap, subst, append-nil, append_assoc}
use Rattle.capability.specs.Parts.{Parts}
use Rattle.checkpoint.specs.Store.{View}
use Rattle.device.specs.Disk.{Disk}
use Rattle.model.specs.Run.{BadLine, Nothing, Reply, Turn}
use Rattle.model.specs.declared.geometry.Geometry.{Geometry}
use Rattle.runs.proofs.TurnLists.{wrote_and_failed, wrote_kept}
use Rattle.runs.specs.declared.unsaved.Unsaved.{Unsaved}
use Rattle.script.specs.LineFaults.{IsFaultOf}
use Rattle.script.specs.Writing.{Writes, Written, Wrote, WroteFront}
use Rattle.script.specs.declared.fault.RunFault.{RunFault}
use Rattle.script.specs.declared.fault.RunFault.TheVariants as fault
use Rattle.script.specs.declared.line_fault.LineFault.{LineFault}
use Rattle.shell.specs.Lines.{Takes}
use Rattle.shell.specs.Sessions.{AreServed, Finishes, HasServed, Inspects, ServesFrom, Session, StepsBy}
use Rattle.shell.specs.Watching.{IsRemark}
use Rattle.shell.specs.declared.help.Topic.{Topic}
use Rattle.shell.specs.declared.watch.Remark.TheVariants as remark

-- ---- remarks about turns

pub bad_said : (g : Geometry) (t : Turn) (u : Unsaved) (why : LineFault) → t.reply ≡ BadLine → IsFaultOf t.line why →
    IsRemark g t u t.reply (Some (remark.Fault why))
bad_said g t u why is fault = subst (λ (r : Reply). IsRemark g t u r (Some (remark.Fault why))) (sym is) (why, fault, refl)

pub none_said : (g : Geometry) (t : Turn) (u : Unsaved) → t.reply ≡ Nothing → IsRemark g t u t.reply None
none_said g t u is = subst (λ (r : Reply). IsRemark g t u r None) (sym is) refl

-- ---- what was written

-- if a text was written, passing it on writes it, or fails after a beginning of it
pub passed_on : (a b c : Written) (r : Result (Unit {0}) RunFault) (text : List ℕ) → Wrote a b text → Writes b c r [] → Writes a c r text
passed_on a b c (Ok u) text wrote kept = wrote_kept a b c text wrote kept
passed_on a b c (Err e) text wrote failed =
    let p = wrote_and_failed a b c text wrote failed.1 in
    (failed.0, record { taken = (text, [], sym (append-nil text), p.0); failed = p.1 })

-- ---- lines

nothing_taken : (ahead : Option (List (List ℕ))) → Takes ahead ahead []
nothing_taken None = tt
nothing_taken (Some ls) = refl

takes_joined : (a b c : Option (List (List ℕ))) (xs ys : List (List ℕ)) → Takes a b xs → Takes b c ys → Takes a c (xs ++ ys)
takes_joined None b c xs ys first then = tt
takes_joined (Some ls) None c xs ys first then = absurd first
takes_joined (Some ls) (Some ms) None xs ys first then = absurd then
takes_joined (Some ls) (Some ms) (Some ns) xs ys first then =
    first ∙ ap (λ (l : List (List ℕ)). xs ++ l) then ∙ sym (append_assoc xs ys ns)

module _ {D S : Type 0} (disk : D → Disk) (view : S → View D) (parts : S → Parts) (inspects : Inspects D) (topics : List Topic)
    (prompts : Bool) where
  -- the lines that were taken so far were served
  abbrev pub SoFar : Option (List (List ℕ)) → Option (List (List ℕ)) → Session D S → Session D S → Type 0
  SoFar ahead now s t = (lines : List (List ℕ)) × Takes ahead now lines × AreServed disk view parts inspects topics prompts lines s t

  pub none_yet : (ahead : Option (List (List ℕ))) (s : Session D S) → SoFar ahead ahead s s
  none_yet ahead s = ([], nothing_taken ahead, refl)

  served_more : (ls : List (List ℕ)) (l : List ℕ) (s mid t : Session D S) → AreServed disk view parts inspects topics prompts ls s mid →
      StepsBy disk view parts inspects topics prompts l mid t (Ok true) →
      AreServed disk view parts inspects topics prompts (ls ++ l ∷ []) s t
  served_more [] l s mid t same step =
      (t, subst (λ (x : Session D S). StepsBy disk view parts inspects topics prompts l x t (Ok true)) same step, refl)
  served_more (k ∷ ks) l s mid t served step = (served.0, served.1, served_more ks l served.0 mid t served.2 step)

  -- if the lines so far were served, and then the next one was, all were
  pub more : (their_topics : List Topic) (theirs : Bool) → their_topics ≡ topics → theirs ≡ prompts →
      (ahead now later : Option (List (List ℕ))) (s mid t : Session D S) (l : List ℕ) → SoFar ahead now s mid → Takes now later (l ∷ []) →
      StepsBy disk view parts inspects their_topics theirs l mid t (Ok true) → SoFar ahead later s t
  more their_topics theirs same_topics same_prompts ahead now later s mid t l so_far takes step = (
    so_far.0 ++ l ∷ [],
    takes_joined ahead now later so_far.0 (l ∷ []) so_far.1 takes,
    served_more so_far.0 l s mid t so_far.2
        (subst (λ (ts : List Topic). StepsBy disk view parts inspects ts prompts l mid t (Ok true)) same_topics
        (subst (λ (p : Bool). StepsBy disk view parts inspects their_topics p l mid t (Ok true)) same_prompts step)),
  )

  -- if the last line ended the session, the session served all lines
  pub finished : (their_topics : List Topic) (theirs : Bool) → their_topics ≡ topics → theirs ≡ prompts →
      (ahead now later : Option (List (List ℕ))) (s mid t : Session D S) (last : List (List ℕ)) (r : Result (Unit {0}) RunFault) →
      SoFar ahead now s mid → Takes now later last → Finishes disk view parts inspects their_topics theirs last later mid t r →
      HasServed disk view parts inspects topics prompts ahead later s t r
  finished their_topics theirs same_topics same_prompts ahead now later s mid t last r so_far takes ends = (
    so_far.0,
    last,
    mid,
    takes_joined ahead now later so_far.0 last so_far.1 takes,
    so_far.2,
    subst (λ (ts : List Topic). Finishes disk view parts inspects ts prompts last later mid t r) same_topics
        (subst (λ (p : Bool). Finishes disk view parts inspects their_topics p last later mid t r) same_prompts ends),
  )

  -- if the answers before the session couldn't be passed on, no line was served
  pub not_begun : (ahead : Option (List (List ℕ))) (s : Session D S) (last : Written) (e : RunFault) → e ≡ fault.Write →
      WroteFront s.output last [] → ServesFrom disk view parts inspects topics prompts ahead ahead s (record s { output = last }) (Err e)
  not_begun ahead s last e is failed = inr (rw is refl, refl, failed, refl)
