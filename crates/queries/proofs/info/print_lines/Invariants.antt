use Rattle.queries.proofs.Names.{take, Wrote, info_text}
use Rattle.queries.proofs.info.print_lines.Given as goal

abbrev pub invariant-loop-line : goal.invariant-loop-line
invariant-loop-line g l = Wrote (g.W.Output.written l.fn.writer) (g.W.Output.written l.writer)
    (info_text l.format (take l.line-index l.lines))
