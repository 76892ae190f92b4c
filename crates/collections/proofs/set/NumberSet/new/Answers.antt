use Rattle.collections.proofs.Marks.{fresh, no_marks}
use Rattle.collections.proofs.set.NumberSet.new.Goals as goal

pub returns : goal.returns
returns c = no_marks _ _ _ (fresh _ _ _ _ c.new-words.ensures.items c.new-words.ensures.len c.in_ok-resize.ensures.items)
