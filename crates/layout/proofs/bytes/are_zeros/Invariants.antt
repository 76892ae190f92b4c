use Rattle.layout.proofs.Numbers.{IsSum}
use Rattle.layout.proofs.bytes.are_zeros.Given as goal

abbrev pub invariant-loop-byte : goal.invariant-loop-byte
invariant-loop-byte l = IsSum l.bytes l.byte-index l.any
