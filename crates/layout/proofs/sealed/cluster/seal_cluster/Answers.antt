use Rattle.layout.proofs.SealedClusters.{cluster_sealed, front_stays, long}
use Rattle.layout.proofs.sealed.cluster.seal_cluster.Goals as goal

pub returns-clause-sealed : goal.returns-clause-sealed
returns-clause-sealed c =
    cluster_sealed c.args.cluster.now c.blank_from.new.bytes c.seal.new.row c.args.nodes c.requires.nodes c.requires.cluster c.seal.auto.row
    c.blank_from.ensures c.seal.ensures.body c.seal.ensures.sealed

pub returns-clause-frames : goal.returns-clause-frames
returns-clause-frames c =
    front_stays c.args.cluster.now c.blank_from.new.bytes c.seal.new.row c.args.nodes c.requires.nodes c.requires.cluster c.seal.auto.row
    c.blank_from.ensures c.seal.ensures.body

pub returns-clause-size : goal.returns-clause-size
returns-clause-size c =
    long c.args.cluster.now c.blank_from.new.bytes c.seal.new.row c.args.nodes c.requires.nodes c.requires.cluster c.seal.auto.row
    c.blank_from.ensures
    c.seal.ensures.body
