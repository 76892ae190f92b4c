-- Runs of a script by the machine.
use Rattle.model.specs.Names.{ℕ, List, [], flat_map}
use Rattle.std.specs.Prelude.{◌≡◌, ◌==◌, if◌then◌else◌, ◌∷◌}
use Rattle.model.specs.declared.answer.Answer.{Answer}
use Rattle.model.specs.declared.geometry.Geometry.{Geometry}
use Rattle.model.specs.declared.line.Line.{Line}
use Rattle.model.specs.declared.line.Line.TheVariants as line
use Rattle.model.specs.Machine.{Machine}
use Rattle.model.specs.Step.{Step}
use Rattle.model.specs.Text.{Says, printed, bad_line}

-- the reply to a line: nothing, that the line is bad, or the machine's answer
pub data Reply : Type 0 where
  Nothing : Reply
  BadLine : Reply
  Reported : Answer → Reply

-- a line, its reply, and the machines before and after it
pub record Turn : Type 0 where
  pub line : List ℕ
  pub before : Machine
  pub reply : Reply
  pub after : Machine

-- the reply to a line, and the machine after it; a skipped or bad line is no step of the machine
abbrev pub Replies : Geometry → Line → Machine → Reply → Machine → Type 0
Replies g line.Skip before reply after = (reply ≡ Nothing) × (after ≡ before)
Replies g line.Bad before reply after = (reply ≡ BadLine) × (after ≡ before)
Replies g (line.Command c) before reply after = (a : Answer) × (reply ≡ Reported a) × Step g before c a after

-- a turn whose reply, and machine afterwards, follow from its line
abbrev pub IsTurn : Geometry → Turn → Type 0
IsTurn g t = (l : Line) × Says t.line l × Replies g l t.before t.reply t.after

-- a run: each turn begins where the one before it ended
abbrev pub IsRun : Geometry → Machine → List Turn → Machine → Type 0
IsRun g m [] last = last ≡ m
IsRun g m (t ∷ ts) last = (t.before ≡ m) × IsTurn g t × IsRun g t.after ts last

abbrev pub reply_text : Reply → List ℕ
reply_text Nothing = []
reply_text BadLine = bad_line
reply_text (Reported a) = printed a

-- the text that a run writes
abbrev pub output_of : List Turn → List ℕ
output_of turns = flat_map (λ t. reply_text t.reply) turns

-- lines, with one more byte at the front of the first
abbrev pub onto_first : ℕ → List (List ℕ) → List (List ℕ)
onto_first b [] = (b ∷ []) ∷ []
onto_first b (first ∷ others) = (b ∷ first) ∷ others

-- the lines of a script: each ends at a newline or at the end of the text; no line follows a newline at the end
abbrev pub lines_of : List ℕ → List (List ℕ)
lines_of [] = []
lines_of (b ∷ bs) = if b == 10 then [] ∷ lines_of bs else onto_first b (lines_of bs)
