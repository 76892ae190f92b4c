use Rattle.command_line.proofs.Names.{map, take, new_app, IsCommand, argument_rule, subcommand_name, with_rules}
use Rattle.command_line.proofs.subcommands.Subcommand.command.Given as goal

-- the command has the arguments so far
abbrev pub invariant-loop-argument : goal.invariant-loop-argument
invariant-loop-argument l = IsCommand (with_rules (new_app (subcommand_name l.fn.self))
    (map argument_rule (take l.argument-index l.arguments))) l.command
