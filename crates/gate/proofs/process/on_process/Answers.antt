use Rattle.capability.specs.Parts.{objects_in}
use Rattle.gate.proofs.process.on_process.Goals as goal

pub returns-in-PutWord-clause-only : goal.returns-in-PutWord-clause-only
returns-in-PutWord-clause-only g c = c.put_word.ensures.only (objects_in (g.F.Frames.parts c.args.store.now))

pub returns-in-MakeStart-clause-only : goal.returns-in-MakeStart-clause-only
returns-in-MakeStart-clause-only g c = c.make_start.ensures.only (objects_in (g.F.Frames.parts c.args.store.now))

pub returns-in-SetState-clause-only : goal.returns-in-SetState-clause-only
returns-in-SetState-clause-only g c = c.set_state.ensures.only (objects_in (g.F.Frames.parts c.args.store.now))

pub returns-in-SetSpace-clause-only : goal.returns-in-SetSpace-clause-only
returns-in-SetSpace-clause-only g c = c.set_space.ensures.only (objects_in (g.F.Frames.parts c.args.store.now))
