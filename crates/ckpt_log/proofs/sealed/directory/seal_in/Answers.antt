use Rattle.std.proofs.Common.{arith, sym}
use Rattle.std.proofs.lemmas.List.{length-take-le}
use Rattle.ckpt_log.proofs.sealed.directory.seal_in.Goals as goal

pub slice_bounds-sums_of-length : goal.slice_bounds-sums_of-length
slice_bounds-sums_of-length c = sym (length-take-le 488 c.args.sector.now (omega (arith, c.requires)))
