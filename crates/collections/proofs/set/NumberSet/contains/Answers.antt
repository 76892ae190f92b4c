use Rattle.collections.proofs.Marks.{mark_read}
use Rattle.collections.proofs.set.NumberSet.contains.Goals as goal

pub returns : goal.returns
returns c = mark_read _ _ _ c.self.invariant _ c.self.view_is _ c.deref.ensures.value _ _ c.requires c.has_bit.ensures
