use Rattle.migrator.proofs.Gathering.{frame_slot_low}
use Rattle.migrator.proofs.gather.gather_one.Goals as goal

pub copy_from-requires-clause-slot : goal.copy_from-requires-clause-slot
copy_from-requires-clause-slot g c =
    rw c.find_frame_slot-slot.ensures (frame_slot_low c.args.plan.now c.args.number c.requires.directory)

pub returns-clause-gathered : goal.returns-clause-gathered
returns-clause-gathered g c = rw c.find_frame_slot-slot.ensures at c.copy_from.ensures.copied
