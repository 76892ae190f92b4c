-- Why a command line names no job.
use Rattle.std.specs.Prelude.{◌≡◌, ◌≢◌, ◌⊎◌, List, [], Option, Some, None, true, false}
use Rattle.clap.specs.Words.{IsAmong, Row, Text, fault_of, kind_of, subcommand_of, takes}
use Rattle.clap.specs.declared.error.Error.{Error}
use Rattle.clap.specs.declared.error.kind.ErrorKind.{ErrorKind}
use Rattle.clap.specs.declared.error.kind.ErrorKind.TheVariants.{OutOfMemory, ValueValidation}
use Rattle.command_line.specs.Commands.{eros_app}
use Rattle.command_line.specs.Jobs.{IsSameTwice}
use Rattle.command_line.specs.declared.fault.JobFault.{JobFault}
use Rattle.command_line.specs.declared.fault.JobFault.TheVariants as fault

-- the fault for an error from clap: `NoMemory` if memory ran out, else `BadWords`
abbrev pub IsFaultOf : Error → JobFault → Type 0
IsFaultOf e (fault.BadWords why) = (why ≡ e) × (kind_of e ≢ OutOfMemory)
IsFaultOf e fault.NoMemory = kind_of e ≡ OutOfMemory

-- the words ask for an upgrade or a copy of a file to itself
abbrev pub AsksForSame : Option (Text × List Row) → Type 0
AsksForSame None = ⊥
AsksForSame (Some met) = IsSameTwice met.0 met.1

-- The error explains why the words are refused. If clap finds a fault in them, its kind is one that clap gives for
-- them. If clap finds none, they ask for an upgrade or a copy of a file to itself, and the kind is that of a bad
-- value.
unfoldable pub Explains : List Text → Error → Type 0
Explains words e =
    ((takes eros_app words ≡ false) × IsAmong (kind_of e) (fault_of eros_app words))
    ⊎ ((fault_of eros_app words ≡ []) × (takes eros_app words ≡ true → AsksForSame (subcommand_of eros_app words))
    × (kind_of e ≡ ValueValidation))

-- why words are refused: an error explains it, other than lack of memory; or memory ran out
abbrev pub IsRefused : List Text → JobFault → Type 0
IsRefused words (fault.BadWords why) = Explains words why × (kind_of why ≢ OutOfMemory)
IsRefused words fault.NoMemory = Unit {0}

-- if the words are refused as bad, the error has this kind
abbrev pub IsReportedAs : ErrorKind → JobFault → Type 0
IsReportedAs kind (fault.BadWords why) = kind_of why ≡ kind
IsReportedAs kind fault.NoMemory = Unit {0}
