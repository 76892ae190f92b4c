-- Recording the uncommitted work of a run.
use Rattle.runs.specs.Names.{Bool, true, false, Answer, Command, Geometry, Reply, Reported, Turn, Says}
use Rattle.std.specs.Prelude.{◌≡◌}
use Rattle.model.specs.declared.answer.Answer.TheVariants as answer
use Rattle.model.specs.declared.command.Command.TheVariants as command
use Rattle.model.specs.declared.line.Line.TheVariants as line
use Rattle.runs.specs.declared.unsaved.Unsaved.{Unsaved}

abbrev pub nothing_unsaved : Unsaved
nothing_unsaved = record { present = false; frozen = false }

-- What isn't committed after this command. Every invocation and store that is carried out is uncommitted. A
-- checkpoint freezes that, a commit saves what is frozen, and a restart loses both.
abbrev pub unsaved_after : Command → Answer → Unsaved → Unsaved
unsaved_after (command.Evict n) answer.Done old = old
unsaved_after c answer.Done old = record { present = true; frozen = old.frozen }
unsaved_after c (answer.Frozen n) old = record { present = false; frozen = old.present }
unsaved_after c (answer.Committed g) old = record { present = old.present; frozen = false }
unsaved_after c (answer.At g age) old = nothing_unsaved
unsaved_after c a old = old

-- what isn't committed after the reply to a turn; a line without a command changes nothing
abbrev pub NotesReply : Turn → Reply → Unsaved → Unsaved → Type 0
NotesReply t (Reported a) old new = (c : Command) × Says t.line (line.Command c) × (new ≡ unsaved_after c a old)
NotesReply t reply old new = new ≡ old

-- the observer records what isn't committed after a turn, and lets the run go on
abbrev pub Notes : Geometry → Turn → Unsaved → Unsaved → Bool → Type 0
Notes g t old new on = (on ≡ true) × NotesReply t t.reply old new
