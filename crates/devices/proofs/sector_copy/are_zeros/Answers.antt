use Rattle.std.proofs.Common.{arith}
use Rattle.devices.proofs.Zeros as zeros
use Rattle.devices.proofs.sector_copy.are_zeros.Goals as goal

pub loop-byte-preserved : goal.loop-byte-preserved
loop-byte-preserved c = zeros.sum_more c.args.bytes.now c.loop-byte.byte-index c.loop-byte.any c.loop-byte.invariant

pub returns : goal.returns
returns c = zeros.are_zeros c.args.bytes.now c.loop-byte.byte-index c.loop-byte.any (omega arith) c.loop-byte.invariant
