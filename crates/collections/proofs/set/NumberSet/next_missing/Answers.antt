use Rattle.collections.proofs.Marks.{missing_is_unmarked}
use Rattle.collections.proofs.set.NumberSet.next_missing.Goals as goal

pub returns-then-number-self-clause-some : goal.returns-then-number-self-clause-some
returns-then-number-self-clause-some c = missing_is_unmarked _ _ _ c.self.invariant _ c.self.view_is _ c.deref.ensures.value c.args.from _
    c.if-number-self.true
    c.in_ok-number.ensures.some
