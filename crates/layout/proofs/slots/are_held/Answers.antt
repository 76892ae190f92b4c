use Rattle.std.proofs.Common.{length, ◌∙◌}
use Rattle.layout.proofs.SlotLists.{front_part, held_from, held_rest}
use Rattle.layout.proofs.slots.are_held.Goals as goal

pub returns-then-are_same : goal.returns-then-are_same
returns-then-are_same c = (
  (λ t. held_from c.args.slots.now c.args.caps.now c.requires.size c.requires.few
      (front_part c.args.slots.now (length c.args.caps.now) ∙ c.are_same.ensures.0 c.if-are_same.true) (c.are_void.ensures.0 t)),
  (λ e. c.are_void.ensures.1 (held_rest c.args.slots.now c.args.caps.now e)),
)
