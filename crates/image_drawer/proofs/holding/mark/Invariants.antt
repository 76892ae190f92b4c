use Rattle.image_drawer.proofs.Names.{take, Adds}
use Rattle.image_drawer.proofs.holding.mark.Given as goal

abbrev pub invariant-loop-number : goal.invariant-loop-number
invariant-loop-number l = Adds (take l.number-index l.numbers) l.fn.inside l.inside
