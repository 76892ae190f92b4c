-- What a shell observes at each line, and its remark about it.
use Rattle.std.specs.Prelude.{◌≡◌, ◌==◌, ◌&&◌, ◌||◌, ◌∷◌, ℕ, Bool, false, true, List, [], Option, None, Some, codes, option_map}
use Rattle.kernel.specs.Standing.{reported_code}
use Rattle.model.specs.Run.{BadLine, Nothing, Reply, Reported, Turn}
use Rattle.model.specs.Text.{Says, line_of, spaced}
use Rattle.model.specs.declared.answer.Answer.{Answer}
use Rattle.model.specs.declared.answer.Answer.TheVariants as answer
use Rattle.model.specs.declared.command.Command.{Command}
use Rattle.model.specs.declared.command.Command.TheVariants as command
use Rattle.model.specs.declared.geometry.Geometry.{Geometry}
use Rattle.model.specs.declared.line.Line.TheVariants as line
use Rattle.model.specs.declared.order.ResultCode.{ResultCode}
use Rattle.runs.specs.Tracing.{code_text}
use Rattle.runs.specs.Unsaved.{Notes}
use Rattle.runs.specs.declared.unsaved.Unsaved.{Unsaved}
use Rattle.script.specs.LineFaults.{IsFaultOf, line_fault_text}
use Rattle.script.specs.Writing.{Written}
use Rattle.script.specs.declared.line_fault.LineFault.{LineFault}
use Rattle.shell.specs.Served.{WritesNote}
use Rattle.shell.specs.declared.watch.Remark.{Remark}
use Rattle.shell.specs.declared.watch.Remark.TheVariants as remark
use Rattle.shell.specs.declared.watch.Watch.{Watch}

-- whether `migrate` had nothing to copy
abbrev pub migrates_nothing : Command → Answer → Bool
migrates_nothing (command.Migrate entries) (answer.Left n) = n == 0
migrates_nothing c a = false

-- the first, or else the order's result code
abbrev pub remark_if : Bool → Option ResultCode → Option Remark
remark_if true code = Some remark.Uncommitted
remark_if false code = option_map remark.Code code

-- the remark about a command: its order's result code; or, if `migrate` had nothing to copy and something isn't
-- committed, a hint
abbrev pub remark_on : Command → Answer → Option ResultCode → Unsaved → Option Remark
remark_on c a code unsaved = remark_if ((unsaved.present || unsaved.frozen) && migrates_nothing c a) code

-- the remark about a turn: why its line is bad, or that about its command
abbrev pub IsRemark : Geometry → Turn → Unsaved → Reply → Option Remark → Type 0
IsRemark g t unsaved Nothing said = said ≡ None
IsRemark g t unsaved BadLine said = (why : LineFault) × IsFaultOf t.line why × (said ≡ Some (remark.Fault why))
IsRemark g t unsaved (Reported a) said =
    (c : Command) × Says t.line (line.Command c) × (said ≡ remark_on c a (reported_code g t.before c a) unsaved)

-- what a shell observes at a turn: what isn't committed after it, and the remark about it
abbrev pub Watches : Geometry → Turn → Watch → Watch → Bool → Type 0
Watches g t old new on = Notes g t old.unsaved new.unsaved on × IsRemark g t old.unsaved t.reply new.remark

-- the line of a remark
abbrev pub remark_text : Remark → List ℕ
remark_text (remark.Fault why) = spaced (codes "reason:" ∷ line_fault_text why ∷ [])
remark_text (remark.Code c) = spaced (codes "result:" ∷ code_text c ∷ [])
remark_text remark.Uncommitted = codes "hint: migrate copies what is committed; some invocations or stores are not"

-- if there is a remark, its line was written
abbrev pub NotesRemark : Option Remark → Written → Written → Type 0
NotesRemark (Some said) old new = WritesNote old new (line_of (remark_text said))
NotesRemark None old new = new ≡ old
