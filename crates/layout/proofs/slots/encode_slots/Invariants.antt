use Rattle.layout.proofs.Names.{take, slots_bytes}
use Rattle.std.proofs.Common.{◌≡◌, ◌*◌}
use Rattle.layout.proofs.slots.encode_slots.Given as goal

abbrev pub invariant-loop-i : goal.invariant-loop-i
invariant-loop-i l = take (24 * l.i) l.into ≡ slots_bytes (take l.i l.caps)
