use Rattle.std.proofs.Common.{rules}
use Rattle.model.proofs.Zeros.{all_zero}
use Rattle.model.proofs.page.clear_before.Goals as goal

pub returns : goal.returns
returns c = search (rules, all_zero)
