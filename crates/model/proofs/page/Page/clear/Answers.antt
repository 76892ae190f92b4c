use Rattle.model.proofs.Zeros.{zero_from_start}
use Rattle.model.proofs.page.Page.clear.Goals as goal

pub invariant_of-self : goal.invariant_of-self
invariant_of-self c = zero_from_start c.clear_before.new.words c.clear_before.ensures
