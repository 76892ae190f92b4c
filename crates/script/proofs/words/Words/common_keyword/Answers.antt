use Rattle.script.proofs.Names.{sym, words_of}
use Rattle.std.proofs.Common.{◌≡◌}
use Rattle.script.proofs.CommonWords.{none_taken}
use Rattle.script.proofs.words.Words.common_keyword.Goals as goal

pub returns-in_err-named-clause-none : goal.returns-in_err-named-clause-none
returns-in_err-named-clause-none c =
    let view : words_of c.in_ok-line.line.now ≡ c.args.self.now = rw c.in_ok-line.was at c.self.view_is in
    none_taken c.from_residual-in_err-named.result c.args.self.now c.in_ok-line.line.now (sym view)
    (c.is_load.ensures.none c.if-is_load.false)
    (c.is_store.ensures.none c.if-is_store.false) c.in_err-named.ensures.none
