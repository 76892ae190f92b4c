use Rattle.reach.proofs.Names.{take, flat_map, enumerate_from, Wrote, member_line}
use Rattle.reach.proofs.printing.print_members.Given as goal

abbrev pub invariant-loop-number : goal.invariant-loop-number
invariant-loop-number g l = Wrote (g.W.Output.written l.fn.writer) (g.W.Output.written l.writer)
    (flat_map (member_line l.format l.inside) (enumerate_from 0 (take l.number l.objects)))
