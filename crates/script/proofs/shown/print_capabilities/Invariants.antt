use Rattle.script.proofs.Names.{take, flat_map, enumerate_from, Wrote, capability_line}
use Rattle.script.proofs.shown.print_capabilities.Given as goal

abbrev pub invariant-loop-index : goal.invariant-loop-index
invariant-loop-index g l = Wrote (g.W.Output.written l.fn.writer) (g.W.Output.written l.writer)
    (flat_map (capability_line l.name) (enumerate_from 0 (take l.index l.capabilities)))
