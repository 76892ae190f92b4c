use Rattle.std.proofs.Common.{◌≡◌, map, take, length}
use Rattle.vezhnake.specs.RawObjects.{raw_capability}
use Rattle.vezhnake.proofs.raw_object.raw_slots.Given as goal

abbrev pub invariant-loop-index : goal.invariant-loop-index
invariant-loop-index l = (take l.index l.raw ≡ map raw_capability (take l.index l.slots)) × (length l.raw ≡ 32)
