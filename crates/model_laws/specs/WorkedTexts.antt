-- Worked lines, runs and texts of refusals.
use Rattle.model_laws.specs.Names.{ℕ, List, [], map, replicate, codes, flat_map, Return, NotPage, Renewed, Up, Turn}
use Rattle.model_laws.specs.Names.{Reply, BadLine, Reported, IsRun, output_of, lines_of, shown, Says, printed, line_of}
use Rattle.model_laws.specs.Names.{small, i0}
use Rattle.std.specs.Prelude.{◌≡◌, ◌^◌, ◌-◌, ◌∷◌, ◌++◌}
use Rattle.model.specs.declared.answer.Answer.TheVariants as answer
use Rattle.model.specs.declared.command.Command.TheVariants as command
use Rattle.model.specs.declared.answer.Refusal.TheVariants as refusal
use Rattle.model.specs.declared.line.Line.TheVariants as line
use Rattle.model_laws.specs.Worked.{at_world}
use Rattle.model_laws.specs.WorkedSteps.{invokes}

-- lines that are commands, with numbers up to the greatest
abbrev pub SaysCommands : Type 0
SaysCommands =
    Says (codes "show 5") (line.Command (command.Show 5))
    × Says (codes "show 0") (line.Command (command.Show 0))
    × Says (codes "show 18446744073709551615") (line.Command (command.Show (2 ^ 64 - 1)))
    × Says (codes "journal 16") (line.Command (command.Journal 16))
    × Says (codes "return 3 31 9 0 0 0 5 0 0 31")
    (line.Command (invokes Return 3 31 (9 ∷ 0 ∷ 0 ∷ 0 ∷ []) (5 ∷ 0 ∷ 0 ∷ 31 ∷ [])))

-- lines that are skipped
abbrev pub SaysNothing : Type 0
SaysNothing = Says [] line.Skip × Says (codes "# show 5") line.Skip × Says (35 ∷ replicate 255 97) line.Skip

-- lines that are bad: too long, a leading zero, two spaces, a space at either end, a carriage
-- return, a word too few, a register or a number too great
abbrev pub SaysBad : Type 0
SaysBad =
    Says (replicate 257 97) line.Bad
    × Says (35 ∷ replicate 256 97) line.Bad
    × Says (codes "show 01") line.Bad
    × Says (codes "show  5") line.Bad
    × Says (codes " show 5") line.Bad
    × Says (codes "show 5 ") line.Bad
    × Says (codes "show 5" ++ 13 ∷ []) line.Bad
    × Says (codes "show") line.Bad
    × Says (codes "call 1 32 0 0 0 0 0 0 0 0") line.Bad
    × Says (codes "show 18446744073709551616") line.Bad

-- the lines of a text; no line follows a newline at the end
abbrev pub CutsLines : Type 0
CutsLines =
    (lines_of [] ≡ [])
    × (lines_of (codes "show 5") ≡ codes "show 5" ∷ [])
    × (lines_of (codes "show 5" ++ 10 ∷ []) ≡ codes "show 5" ∷ [])
    × (lines_of (10 ∷ codes "cut" ++ 10 ∷ 10 ∷ codes "#" ++ 10 ∷ []) ≡ [] ∷ codes "cut" ∷ [] ∷ codes "#" ∷ [])

-- a turn that leaves the machine of World I0 unchanged
abbrev pub i0_turn : List ℕ → Reply → Turn
i0_turn line reply = record { line = line; before = Up (at_world i0); reply = reply; after = Up (at_world i0) }

-- a run over two bad lines and a last line without a newline
abbrev pub RunsScript : Type 0
RunsScript =
    let turns : List Turn = i0_turn (replicate 257 97) BadLine ∷ i0_turn (codes "show 01") BadLine
    ∷ i0_turn (codes "show 5") (Reported (shown i0.objects 5)) ∷ [] in
    (lines_of (replicate 257 97 ++ 10 ∷ codes "show 01" ++ 10 ∷ codes "show 5") ≡ map (λ t. t.line) turns)
    × IsRun small (Up (at_world i0)) turns (Up (at_world i0))
    × (output_of turns ≡ flat_map line_of (codes "bad line" ∷ codes "bad line" ∷ codes "free 5" ∷ codes "end" ∷ []))

-- what is written for each refusal
abbrev pub PrintsRefusals : Type 0
PrintsRefusals =
    map (λ why. printed (answer.Refused why))
    (refusal.Down ∷ refusal.NoProcess ∷ refusal.NotRunning ∷ refusal.Worn ∷ refusal.Stalled ∷ refusal.LogFull
    ∷ refusal.CheckpointRunning ∷ refusal.MigrationPending ∷ refusal.NotStable 3 ∷ refusal.NoCheckpoint
    ∷ refusal.NoMemory ∷ refusal.Fault ∷ refusal.BadNumber ∷ refusal.NotJournaled NotPage
    ∷ refusal.NotJournaled Renewed ∷ [])
    ≡ map line_of
    (codes "down" ∷ codes "no process" ∷ codes "not running" ∷ codes "worn" ∷ codes "stalled" ∷ codes "log full"
    ∷ codes "checkpoint running" ∷ codes "migration pending" ∷ codes "not stable 3" ∷ codes "no checkpoint"
    ∷ codes "no memory" ∷ codes "fault" ∷ codes "bad number" ∷ codes "not journaled 1" ∷ codes "not journaled 2" ∷ [])
