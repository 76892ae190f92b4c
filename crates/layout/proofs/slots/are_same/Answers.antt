use Rattle.layout.proofs.Names.{rules, slice_eq-Decides}
use Rattle.layout.proofs.slots.are_same.Goals as goal

pub returns : goal.returns
returns c = slice_eq-Decides (λ a b. search rules) _ _ _ c.eq.ensures
