use Rattle.cache_entries.proofs.Names.{arith, common_steps}
use Rattle.cache_entries.proofs.Contents.{puts_are}
use Rattle.cache_entries.proofs.bodies.Bodies.put.Goals as goal

pub invariant_of-self : goal.invariant_of-self
invariant_of-self c = grind (arith, common_steps, puts_are)
