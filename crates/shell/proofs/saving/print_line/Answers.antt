use Rattle.shell.proofs.Sessions.{passed_on}
use Rattle.model.specs.Text.{line_of}
use Rattle.shell.proofs.saving.print_line.Goals as goal

pub returns-clause-writes : goal.returns-clause-writes
returns-clause-writes g c = passed_on (g.W.Output.written c.args.writer.now) (g.W.Output.written c.write_to.new.writer)
    (g.W.Output.written c.pass_on.new.self)
    c.pass_on.result (line_of c.args.line) c.in_ok-write_to.ensures c.pass_on.ensures.bytes
