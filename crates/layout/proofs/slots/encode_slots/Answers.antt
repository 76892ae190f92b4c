use Rattle.layout.proofs.Names.{sym}
use Rattle.layout.proofs.SlotLists.{slots_bytes-nil}
use Rattle.layout.proofs.slots.encode_slots.Goals as goal

pub loop-i-init : goal.loop-i-init
loop-i-init c = sym slots_bytes-nil
