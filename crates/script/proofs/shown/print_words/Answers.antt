use Rattle.script.proofs.Names.{subst, arith, err_from_is_err_and, Wrote, word_line, word_lines}
use Rattle.script.proofs.Fronts.{wrote_trans, writes_fail}
use Rattle.script.proofs.NumberedLines.{lines_split, lines_more, lines_all}
use Rattle.script.proofs.shown.print_words.Goals as goal

pub returns-in_err-print_word : goal.returns-in_err-print_word
unfolding word_lines
returns-in_err-print_word g c =
    let p = err_from_is_err_and c.from_residual.result c.from_residual.ensures.1 in
    rw (p.1, p.2) (writes_fail _ _ _ _ _ _ _ _ (lines_split word_line c.args.words.now c.loop-index.index 0 c.loop-index-test.true)
    c.loop-index.invariant c.in_err-print_word.ensures)

pub loop-index-preserved : goal.loop-index-preserved
loop-index-preserved g c = rw (lines_more word_line _ _ 0 c.loop-index-test.true)
    (wrote_trans _ _ _ _ _ c.loop-index.invariant c.in_ok-print_word.ensures)

pub returns : goal.returns
unfolding word_lines
returns g c = subst (Wrote _ _) (lines_all word_line c.args.words.now c.loop-index.index (omega arith)) c.loop-index.invariant
