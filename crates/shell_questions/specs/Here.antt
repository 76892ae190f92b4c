-- A question about the sectors that a device has now.
use Rattle.std.specs.Prelude.{◌≡◌, ℕ, List, Result}
use Rattle.device.specs.Disk.{Disk}
use Rattle.devices.specs.ReadOnly.{at_rest, looked_at}
use Rattle.devices.specs.declared.read_only.ReadOnly.{ReadOnly}
use Rattle.script.specs.Writing.{Written}
use Rattle.script.specs.declared.fault.RunFault.{RunFault}
use Rattle.shell_questions.specs.Questions.{AnswersLine}

-- a line was answered about a device that has these sectors and can't be written
abbrev pub AnswersHere : {D : Type 0} → (D → Disk) → D → List ℕ → Written → Written → Written → Written →
    Result (Unit {0}) RunFault → Type 0
AnswersHere {D = D} disk device line output output_left errors errors_left r = (here : ReadOnly D) × (looked_at here ≡ device)
    × AnswersLine (at_rest disk) line here output output_left errors errors_left r
