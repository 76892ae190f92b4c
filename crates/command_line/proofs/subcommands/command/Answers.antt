use Rattle.command_line.proofs.Building.{added_more}
use Rattle.command_line.proofs.subcommands.command.Goals as goal

pub loop-subcommand-preserved : goal.loop-subcommand-preserved
loop-subcommand-preserved c = added_more _ _ _ _ _ _ _
    c.loop-subcommand-test.true c.loop-subcommand.invariant c.in_ok-command-3.ensures c.in_ok-command-2.ensures
