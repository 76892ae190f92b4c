use Rattle.command_line.proofs.Names.{rules, found_of, rows_of}
use Rattle.command_line.proofs.Getters.{flagged, given}
use Rattle.command_line.proofs.arguments.flag_of.Goals as goal

pub returns-in-Some : goal.returns-in-Some
returns-in-Some c = flagged (rows_of (found_of c.args.inner.now)) c.args.name.now c.in-Some.word.now c.eq.result
    (given (found_of c.args.inner.now) c.args.name.now c.get_str.result c.in-Some.word c.get_str.ensures (search rules)) (search rules)
