use Rattle.migrator.proofs.Names.{rules, row, true}
use Rattle.std.proofs.Common.{◌≡◌}
use Rattle.migrator.proofs.Clusters.{seal_keeps, seal_is}
use Rattle.migrator.proofs.assemble.put_seal.Goals as goal

pub returns-then-sealed-clause-frames : goal.returns-then-sealed-clause-frames
returns-then-sealed-clause-frames c =
    let start = rw c.new-home.ensures at c.first-first.ensures.first in
    let sealed : (row c.args.plan.now.version).sealed ≡ true = search rules in
    seal_keeps c.args.cluster.now c.seal_cluster.new.cluster c.version.ensures.fits c.requires.object start sealed
    (rw c.new-home.ensures at c.cluster_count-nodes.ensures.value) c.seal_cluster.ensures.frames

pub returns-then-sealed-clause-seal : goal.returns-then-sealed-clause-seal
returns-then-sealed-clause-seal c =
    let start = rw c.new-home.ensures at c.first-first.ensures.first in
    λ sealed. seal_is c.args.cluster.now c.seal_cluster.new.cluster c.version.ensures.fits c.requires.object start
    (rw c.new-home.ensures at c.cluster_count-nodes.ensures.value) c.seal_cluster.ensures.sealed
