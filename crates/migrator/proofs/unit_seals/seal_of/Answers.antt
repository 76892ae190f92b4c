use Rattle.migrator.proofs.Names.{arith, sym, length-take-le, length}
use Rattle.std.proofs.Common.{◌-◌}
use Rattle.migrator.proofs.unit_seals.seal_of.Goals as goal

pub slice_bounds-sums_of-length : goal.slice_bounds-sums_of-length
slice_bounds-sums_of-length c = sym (length-take-le (length c.args.row.now - 24) c.args.row.now (omega arith))
