-- What a trace of a run says, and where a strict run ends.
use Rattle.runs.specs.Names.{ℕ, min, Bool, true, false, Option, None, Some, List, [], codes, decimal, Answer, Command}
use Rattle.runs.specs.Names.{Geometry, ResultCode, code_number, Reply, Nothing, BadLine, Reported, Turn, Says, line_of}
use Rattle.runs.specs.Names.{refusal_text, spaced, LineFault, IsAnswerText, command_name, IsFaultOf, line_fault_text}
use Rattle.runs.specs.Names.{Written, Wrote, WroteFront, reported_code}
use Rattle.std.specs.Prelude.{◌≡◌, ◌≢◌, ◌+◌, ◌-◌, ◌^◌, ◌∷◌, ◌++◌}
use Rattle.model.specs.declared.answer.Answer.TheVariants as answer
use Rattle.model.specs.declared.line.Line.TheVariants as line
use Rattle.model.specs.declared.order.ResultCode.TheVariants as code
use Rattle.runs.specs.declared.cause.Cause.{Cause}
use Rattle.runs.specs.declared.cause.Cause.TheVariants as cause
use Rattle.runs.specs.declared.cause.Stop.{Stop}
use Rattle.runs.specs.declared.tracer.TraceOptions.{TraceOptions}
use Rattle.runs.specs.declared.tracer.Tracer.{Tracer}

-- ---- texts

abbrev pub code_word : ResultCode → List ℕ
code_word code.Done = codes "success"
code_word code.NoOrder = codes "no order"
code_word code.NoAccess = codes "no access"
code_word code.BadIndex = codes "bad index"
code_word code.BadCapability = codes "bad capability"
code_word code.Limit = codes "limit"
code_word code.NoFrame = codes "no free number"
code_word code.TooDeep = codes "too deep"
code_word code.VoidCapability = codes "void capability"
code_word code.NotFromThisBank = codes "not from this bank"
code_word code.PrimeBank = codes "prime bank"

-- a result code in words, with its number
abbrev pub code_text : ResultCode → List ℕ
code_text c = code_word c ++ codes " (" ++ decimal (code_number c) ++ codes ")"

-- why a strict run ends at a line
abbrev pub cause_text : Cause → List ℕ
cause_text (cause.BadLine why) = spaced (codes "bad line:" ∷ line_fault_text why ∷ [])
cause_text (cause.Refused why) = refusal_text why
cause_text (cause.Code c) = code_text c

-- the outcome of a command in a trace: its result code if it has one, else its answer
abbrev pub IsOutcome : Option ResultCode → Answer → List ℕ → Type 0
IsOutcome (Some c) a text = text ≡ code_text c
IsOutcome None a text = IsAnswerText a text

-- the number of a line, which its trace begins with
abbrev pub place_text : ℕ → List ℕ
place_text place = decimal place ++ codes ":"

-- the trace of a turn whose line has this number
abbrev pub IsTrace : Geometry → ℕ → Turn → Reply → List ℕ → Type 0
IsTrace g place t Nothing text = text ≡ []
IsTrace g place t BadLine text =
    (why : LineFault) × IsFaultOf t.line why ×
    (text ≡ line_of (spaced (place_text place ∷ cause_text (cause.BadLine why) ∷ [])))
IsTrace g place t (Reported a) text =
    (c : Command) × Says t.line (line.Command c) × (outcome : List ℕ) × IsOutcome (reported_code g t.before c a) a
    outcome
    × (text ≡ line_of (spaced (place_text place ∷ (command_name c ++ codes ":") ∷ outcome ∷ [])))

-- ---- where a strict run ends

-- an answer with this result code is this cause to end a strict run
abbrev pub IsCauseIn : Answer → Option ResultCode → Cause → Type 0
IsCauseIn a reported (cause.BadLine why) = ⊥
IsCauseIn a reported (cause.Refused why) = a ≡ answer.Refused why
IsCauseIn a reported (cause.Code c) = (reported ≡ Some c) × (c ≢ code.Done)

-- a turn has this cause to end a strict run
abbrev pub IsCauseOf : Geometry → Turn → Cause → Type 0
IsCauseOf g t (cause.BadLine why) = (t.reply ≡ BadLine) × IsFaultOf t.line why
IsCauseOf g t why =
    (c : Command) × Says t.line (line.Command c) × (a : Answer) × (t.reply ≡ Reported a) × IsCauseIn a
    (reported_code g t.before c a) why

-- if the run is strict and this turn has a cause, the run ends here and `stop` says so; else it goes on
abbrev pub Ends : Geometry → ℕ → Turn → Bool → Bool → Option Stop → Type 0
Ends g place t false on stop = on ≡ true
Ends g place t true true stop = (why : Cause) → IsCauseOf g t why → ⊥
Ends g place t true false None = ⊥
Ends g place t true false (Some stop) = (stop.line ≡ place) × IsCauseOf g t stop.cause

-- A trace was written; or writing it failed, and this and all later traces are lost. If no trace is wanted, none is
-- written.
abbrev pub IsTraced : Bool → Bool → Bool → Written → Written → List ℕ → Type 0
IsTraced true false false old new text = Wrote old new text
IsTraced true false true old new text = WroteFront old new text
IsTraced true true true old new text = new ≡ old
IsTraced false was_lost is_lost old new text = (new ≡ old) × (is_lost ≡ was_lost)
IsTraced true true false old new text = ⊥

-- what a tracer does at a turn; the number of the line rises by 1, up to 2^64 - 1
pub record Sees {V : Type 0} (written : V → Written) (g : Geometry) (t : Turn) (old new : Tracer V) (on : Bool)
    : Type 0 where
  pub options : new.options ≡ old.options
  pub place : new.line ≡ min (old.line + 1) (2 ^ 64 - 1)
  pub text : List ℕ
  pub trace : IsTrace g new.line t t.reply text
  pub traced : IsTraced old.options.trace old.is_lost new.is_lost (written old.errors) (written new.errors) text
  pub ends : Ends g new.line t old.options.strict on new.stop

-- a tracer that has seen no line
pub record IsNewTracer {V : Type 0} (writer : V) (chosen : TraceOptions) (new : Tracer V) : Type 0 where
  pub errors : new.errors ≡ writer
  pub options : new.options ≡ chosen
  pub place : new.line ≡ 0
  pub none_lost : new.is_lost ≡ false
  pub none_stopped : new.stop ≡ None

-- two tracers are equal except in what was written
pub record IsSame {V : Type 0} (old new : Tracer V) : Type 0 where
  pub options : new.options ≡ old.options
  pub place : new.line ≡ old.line
  pub stop : new.stop ≡ old.stop

-- if a strict run has a cause, it ends here, and `stop` has the line's number and the cause; else it goes on
abbrev pub EndsIf : Bool → Option Cause → ℕ → Bool → Option Stop → Type 0
EndsIf true (Some why) place on stop = (on ≡ false) × (stop ≡ Some (record { line = place; cause = why }))
EndsIf true None place on stop = on ≡ true
EndsIf false None place on stop = on ≡ true
EndsIf false (Some why) place on stop = on ≡ true

-- the tracer counted a line and wrote its trace
pub record Notes {V : Type 0} (written : V → Written) (at : ℕ) (text : List ℕ) (why : Option Cause)
    (old new : Tracer V) (on : Bool) : Type 0 where
  pub options : new.options ≡ old.options
  pub place : new.line ≡ at
  pub traced : IsTraced old.options.trace old.is_lost new.is_lost (written old.errors) (written new.errors)
      (line_of text)
  pub ends : EndsIf old.options.strict why at on new.stop

-- where the tracer ended the run, if it did
abbrev pub stop_of : {V : Type 0} → Tracer V → Option Stop
stop_of tracer = tracer.stop
