use Rattle.std.proofs.Common.{arith, ap, sym, ◌∙◌}
use Rattle.std.proofs.lemmas.List.{length-take-le}
use Rattle.seal.specs.Sums.{sums_of}
use Rattle.ckpt_log.proofs.SealedWritten.{cluster_body}
use Rattle.ckpt_log.proofs.sealed.units.cluster_seal.Goals as goal

pub slice_bounds-sums_of-length : goal.slice_bounds-sums_of-length
slice_bounds-sums_of-length c = sym (length-take-le 4072 c.args.cluster.now (omega (arith, c.requires)))

pub returns : goal.returns
returns c = c.sums_of.ensures.sums ∙ ap sums_of (cluster_body c.args.cluster.now c.requires)
