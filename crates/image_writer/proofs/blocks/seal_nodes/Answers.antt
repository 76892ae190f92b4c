use Rattle.image_writer.proofs.Names.{arith, ap, sym, length-take-le, sums_of}
use Rattle.std.proofs.Common.{◌∙◌}
use Rattle.image_writer.proofs.Sealing.{cluster_body}
use Rattle.image_writer.proofs.blocks.seal_nodes.Goals as goal

pub slice_bounds-sums_of-length : goal.slice_bounds-sums_of-length
slice_bounds-sums_of-length c = sym (length-take-le 4072 c.seal_cluster.new.cluster (omega (arith, c.seal_cluster.ensures.size)))

pub sums_of-requires-clause-whole : goal.sums_of-requires-clause-whole
sums_of-requires-clause-whole c =
    let long = length-take-le 4072 c.seal_cluster.new.cluster (omega (arith, c.seal_cluster.ensures.size)) in omega (arith, long)

pub sums_of-requires-clause-size : goal.sums_of-requires-clause-size
sums_of-requires-clause-size c =
    let long = length-take-le 4072 c.seal_cluster.new.cluster (omega (arith, c.seal_cluster.ensures.size)) in omega (arith, long)

pub returns-clause-seal : goal.returns-clause-seal
returns-clause-seal c = c.sums_of.ensures.sums ∙ ap sums_of (cluster_body c.seal_cluster.new.cluster c.seal_cluster.ensures.size)
