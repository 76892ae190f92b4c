use Rattle.std.proofs.Common.{rules}
use Rattle.seal.proofs.Spelled.{sums_read}
use Rattle.seal.proofs.sums.sums_at.Goals as goal

pub returns : goal.returns
returns c =
    sums_read c.args.bytes.now c.args.at (record { a = c.read_u64.result; b = c.read_u64-2.result; c = c.read_u64-3.result }) c.requires
    (search rules)
    c.read_u64.ensures c.read_u64-2.ensures c.read_u64-3.ensures
