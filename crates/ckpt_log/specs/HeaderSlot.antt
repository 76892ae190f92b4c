-- The two header slots.
use Rattle.std.specs.Prelude.{ℕ, ◌+◌, ◌*◌}
use Rattle.ckpt_log.specs.declared.header_slot.HeaderSlot.{HeaderSlot}
use Rattle.ckpt_log.specs.declared.header_slot.HeaderSlot.TheVariants.{First, Second}

-- the number of a slot: the sequence numbers of its headers, mod 2
abbrev pub slot_number : HeaderSlot → ℕ
slot_number First = 0
slot_number Second = 1

abbrev pub other_slot : HeaderSlot → HeaderSlot
other_slot First = Second
other_slot Second = First

-- the sectors of a slot's header and of its gate
abbrev pub header_at : HeaderSlot → ℕ
header_at slot = 1 + 2 * slot_number slot

abbrev pub gate_at : HeaderSlot → ℕ
gate_at slot = 2 + 2 * slot_number slot
