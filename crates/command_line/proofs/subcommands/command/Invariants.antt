use Rattle.command_line.proofs.Names.{take, IsCommand, bare_app, subcommands, with_subcommands}
use Rattle.command_line.proofs.subcommands.command.Given as goal

-- the command has the subcommands so far
abbrev pub invariant-loop-subcommand : goal.invariant-loop-subcommand
invariant-loop-subcommand l = IsCommand (with_subcommands bare_app (take l.subcommand-index subcommands)) l.command
