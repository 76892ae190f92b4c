use Rattle.std.proofs.Common.{◌∙◌, sym}
use Rattle.migrator.proofs.PlacesApart.{frame_slot_fits}
use Rattle.migrator.proofs.read.read_saved.Goals as goal

pub read_slot-requires-clause-slot : goal.read_slot-requires-clause-slot
read_slot-requires-clause-slot g c =
    rw c.new-log.ensures (frame_slot_fits c.args.plan.now c.args.number c.requires.directory (sym c.find_frame_slot.ensures ∙ c.in-Some.is))
