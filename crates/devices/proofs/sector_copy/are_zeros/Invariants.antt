use Rattle.devices.proofs.Zeros.{IsSum}
use Rattle.devices.proofs.sector_copy.are_zeros.Given as goal

abbrev pub invariant-loop-byte : goal.invariant-loop-byte
invariant-loop-byte l = IsSum l.bytes l.byte-index l.any
