use Rattle.reach.proofs.Names.{common_steps, arith, take_all, take_more, length_objects}
use Rattle.reach.proofs.world.read_objects.Goals as goal

pub loop-number-preserved : goal.loop-number-preserved
loop-number-preserved g c = grind (arith, common_steps, length_objects, take_more)

pub returns-clause-objects : goal.returns-clause-objects
returns-clause-objects g c = grind (arith, common_steps, take_all, length_objects)
