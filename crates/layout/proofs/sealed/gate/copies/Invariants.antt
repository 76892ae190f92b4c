use Rattle.std.proofs.Common.{◌≡◌, take}
use Rattle.layout.specs.sealed.Gate.{copies}
use Rattle.layout.proofs.sealed.gate.copies.Given as goal

abbrev pub invariant-loop-other : goal.invariant-loop-other
invariant-loop-other l = l.count ≡ copies l.number (take l.other-index l.numbers)
