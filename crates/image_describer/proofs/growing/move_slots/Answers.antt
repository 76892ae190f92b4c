use Rattle.image_describer.proofs.Names.{moved, moved_slot, zip_mapped}
use Rattle.image_describer.proofs.growing.move_slots.Goals as goal

pub returns : goal.returns
returns c = zip_mapped (moved_slot (moved c.args.old c.args.new)) c.args.slots.now _ c.renumber_all.ensures
