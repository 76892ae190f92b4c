use Rattle.image_drawer.proofs.Names.{rules, filter_same}
use Rattle.image_drawer.proofs.restricting.restrict_slots.Goals as goal

pub returns : goal.returns
returns c = filter_same _ _ _ (λ x b f' k. search rules) _ _ c.retain.ensures.filtered
