use Rattle.command_line.proofs.Names.{take, All, subcommand_name, subcommands}
use Rattle.std.proofs.Common.{◌≢◌}
use Rattle.command_line.proofs.subcommands.Subcommand.of.Given as goal

-- no subcommand so far has this name
abbrev pub invariant-loop-candidate : goal.invariant-loop-candidate
invariant-loop-candidate l = All (λ s. l.name ≢ subcommand_name s) (take l.candidate-index subcommands)
