use Rattle.migrator.proofs.Names.{arith, agrees_is, length, subst, Geometry}
use Rattle.std.proofs.Common.{◌≡◌, ◌<◌, ◌≤◌}
use Rattle.device.specs.Disk.{IsWhole}
use Rattle.migrator.proofs.SealedUnits.{cluster_length, cluster_read, page_length, page_read}
use Rattle.migrator.proofs.units.read_unit.Goals as goal

pub read_cluster-requires-clause-inside : goal.read_cluster-requires-clause-inside
read_cluster-requires-clause-inside g c =
    let less = subst (λ (x : Geometry). c.args.number < x.nodes) c.geometry-geometry.ensures.value c.if-number-geometry.true in
    let long = cluster_length c.args.plan.now c.args.number c.requires.sealed less in
    omega (arith, long, c.frame_sector-at.ensures.inside, c.requires.inside)

pub read_summed-requires-clause-inside : goal.read_summed-requires-clause-inside
read_summed-requires-clause-inside g c =
    let le = subst (λ (x : Geometry). x.nodes ≤ c.args.number) c.geometry-geometry.ensures.value c.if-number-geometry.false in
    let long = page_length c.args.plan.now c.args.number le in
    omega (arith, long, c.frame_sector-at.ensures.inside, c.requires.inside)

pub returns-then-number-geometry-clause-found : goal.returns-then-number-geometry-clause-found
returns-then-number-geometry-clause-found g c =
    let less = subst (λ (x : Geometry). c.args.number < x.nodes) c.geometry-geometry.ensures.value c.if-number-geometry.true in
    let old = g.D.Device.disk c.args.device.now in
    let new = g.D.Device.disk c.read_cluster.new.device in
    (cluster_read old.seen c.args.plan.now c.args.generation c.args.directory.now c.args.number c.frame_sector-at.result
    c.frame_sector-at.ensures.value c.requires.sealed less c.cluster_count-nodes.result
    (rw c.new-home.ensures at c.cluster_count-nodes.ensures.value) new.seen c.read_cluster.new.cluster c.read_cluster.result
    (agrees_is new.seen old.seen c.read_cluster.ensures.reads.seen) c.read_cluster.ensures.bytes c.read_cluster.ensures.found
    c.read_cluster.ensures.refused).found

pub returns-then-number-geometry-clause-seal : goal.returns-then-number-geometry-clause-seal
returns-then-number-geometry-clause-seal g c =
    let less = subst (λ (x : Geometry). c.args.number < x.nodes) c.geometry-geometry.ensures.value c.if-number-geometry.true in
    let old = g.D.Device.disk c.args.device.now in
    let new = g.D.Device.disk c.read_cluster.new.device in
    (cluster_read old.seen c.args.plan.now c.args.generation c.args.directory.now c.args.number c.frame_sector-at.result
    c.frame_sector-at.ensures.value c.requires.sealed less c.cluster_count-nodes.result
    (rw c.new-home.ensures at c.cluster_count-nodes.ensures.value) new.seen c.read_cluster.new.cluster c.read_cluster.result
    (agrees_is new.seen old.seen c.read_cluster.ensures.reads.seen) c.read_cluster.ensures.bytes c.read_cluster.ensures.found
    c.read_cluster.ensures.refused).seal

pub returns-then-number-geometry-clause-refused : goal.returns-then-number-geometry-clause-refused
returns-then-number-geometry-clause-refused g c =
    let less = subst (λ (x : Geometry). c.args.number < x.nodes) c.geometry-geometry.ensures.value c.if-number-geometry.true in
    let old = g.D.Device.disk c.args.device.now in
    let new = g.D.Device.disk c.read_cluster.new.device in
    (cluster_read old.seen c.args.plan.now c.args.generation c.args.directory.now c.args.number c.frame_sector-at.result
    c.frame_sector-at.ensures.value c.requires.sealed less c.cluster_count-nodes.result
    (rw c.new-home.ensures at c.cluster_count-nodes.ensures.value) new.seen c.read_cluster.new.cluster c.read_cluster.result
    (agrees_is new.seen old.seen c.read_cluster.ensures.reads.seen) c.read_cluster.ensures.bytes c.read_cluster.ensures.found
    c.read_cluster.ensures.refused).refused

pub returns-else-number-geometry-clause-found : goal.returns-else-number-geometry-clause-found
returns-else-number-geometry-clause-found g c =
    let le = subst (λ (x : Geometry). x.nodes ≤ c.args.number) c.geometry-geometry.ensures.value c.if-number-geometry.false in
    let long = page_length c.args.plan.now c.args.number le in
    let device = c.args.device.now in
    let old = g.D.Device.disk device in
    let new = g.D.Device.disk c.read_summed.new.device in
    let whole : IsWhole old.sectors old.seen = g.met.D.Device.left_whole device old.moment old.seen
    (g.met.D.Device.counts_now device old.moment old.seen (omega arith) (g.met.D.Device.seen_left device)) in
    let size : length (old.seen c.frame_sector-at.result) ≡ 512 = whole.size c.frame_sector-at.result
    (omega (arith, long, c.frame_sector-at.ensures.inside, c.requires.inside)) in
    (page_read old.seen c.args.plan.now c.args.generation c.args.directory.now c.args.number c.frame_sector-at.result
    c.frame_sector-at.ensures.value le new.seen c.read_summed.new.block c.read_summed.result
    (agrees_is new.seen old.seen c.read_summed.ensures.reads.seen) size c.read_summed.ensures.bytes c.read_summed.ensures.found
    c.read_summed.ensures.refused).found

pub returns-else-number-geometry-clause-seal : goal.returns-else-number-geometry-clause-seal
returns-else-number-geometry-clause-seal g c =
    let le = subst (λ (x : Geometry). x.nodes ≤ c.args.number) c.geometry-geometry.ensures.value c.if-number-geometry.false in
    let long = page_length c.args.plan.now c.args.number le in
    let device = c.args.device.now in
    let old = g.D.Device.disk device in
    let new = g.D.Device.disk c.read_summed.new.device in
    let whole : IsWhole old.sectors old.seen = g.met.D.Device.left_whole device old.moment old.seen
    (g.met.D.Device.counts_now device old.moment old.seen (omega arith) (g.met.D.Device.seen_left device)) in
    let size : length (old.seen c.frame_sector-at.result) ≡ 512 = whole.size c.frame_sector-at.result
    (omega (arith, long, c.frame_sector-at.ensures.inside, c.requires.inside)) in
    (page_read old.seen c.args.plan.now c.args.generation c.args.directory.now c.args.number c.frame_sector-at.result
    c.frame_sector-at.ensures.value le new.seen c.read_summed.new.block c.read_summed.result
    (agrees_is new.seen old.seen c.read_summed.ensures.reads.seen) size c.read_summed.ensures.bytes c.read_summed.ensures.found
    c.read_summed.ensures.refused).seal

pub returns-else-number-geometry-clause-refused : goal.returns-else-number-geometry-clause-refused
returns-else-number-geometry-clause-refused g c =
    let le = subst (λ (x : Geometry). x.nodes ≤ c.args.number) c.geometry-geometry.ensures.value c.if-number-geometry.false in
    let long = page_length c.args.plan.now c.args.number le in
    let device = c.args.device.now in
    let old = g.D.Device.disk device in
    let new = g.D.Device.disk c.read_summed.new.device in
    let whole : IsWhole old.sectors old.seen = g.met.D.Device.left_whole device old.moment old.seen
    (g.met.D.Device.counts_now device old.moment old.seen (omega arith) (g.met.D.Device.seen_left device)) in
    let size : length (old.seen c.frame_sector-at.result) ≡ 512 = whole.size c.frame_sector-at.result
    (omega (arith, long, c.frame_sector-at.ensures.inside, c.requires.inside)) in
    (page_read old.seen c.args.plan.now c.args.generation c.args.directory.now c.args.number c.frame_sector-at.result
    c.frame_sector-at.ensures.value le new.seen c.read_summed.new.block c.read_summed.result
    (agrees_is new.seen old.seen c.read_summed.ensures.reads.seen) size c.read_summed.ensures.bytes c.read_summed.ensures.found
    c.read_summed.ensures.refused).refused
