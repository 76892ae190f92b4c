use Rattle.script.proofs.Names.{take, flat_map, enumerate_from, Wrote, word_line}
use Rattle.script.proofs.shown.print_words.Given as goal

abbrev pub invariant-loop-index : goal.invariant-loop-index
invariant-loop-index g l = Wrote (g.W.Output.written l.fn.writer) (g.W.Output.written l.writer)
    (flat_map word_line (enumerate_from 0 (take l.index l.words)))
