use Rattle.std.proofs.Common.{refl}
use Rattle.model.proofs.Zeros.{zero_from_start}
use Rattle.model.proofs.page.Page.blank.Goals as goal

pub invariant_of-result : goal.invariant_of-result
invariant_of-result c = zero_from_start _ refl
