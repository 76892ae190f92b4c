use Rattle.command_line.proofs.Building.{argued_more}
use Rattle.command_line.proofs.subcommands.Subcommand.command.Goals as goal

pub loop-argument-preserved : goal.loop-argument-preserved
loop-argument-preserved c = argued_more _ _ _ _ _
    _ _ c.loop-argument-test.true c.loop-argument.invariant c.in_ok-command.ensures c.arg.ensures.rule c.arg.ensures.local
