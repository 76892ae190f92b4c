use Rattle.reach.proofs.Names.{take, flat_map, enumerate_from, Wrote, pull_line}
use Rattle.reach.proofs.printing.print_pulls.Given as goal

abbrev pub invariant-loop-index : goal.invariant-loop-index
invariant-loop-index g l = Wrote (g.W.Output.written l.fn.writer) (g.W.Output.written l.writer)
    (flat_map (pull_line l.format l.name l.number l.place) (enumerate_from 0 (take l.index l.capabilities)))
