use Rattle.collections.proofs.Marks.{few_marks}
use Rattle.collections.proofs.set.NumberSet.next.Goals as goal

pub returns-clause-few : goal.returns-clause-few
returns-clause-few c = few_marks _ _ _ c.self.invariant _ c.self.view_is
