use Rattle.migrator.proofs.NewFrames.{own_slot_fits}
use Rattle.migrator.proofs.assemble.copy_new.Goals as goal

pub copy_from-requires-clause-slot : goal.copy_from-requires-clause-slot
copy_from-requires-clause-slot g c =
    rw c.find-slot.ensures (own_slot_fits c.args.plan.now c.args.entries.now c.args.number c.requires.directory)

pub returns-clause-copied : goal.returns-clause-copied
returns-clause-copied g c = rw c.find-slot.ensures at c.copy_from.ensures.copied
