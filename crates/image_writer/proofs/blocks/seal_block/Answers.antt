use Rattle.image_writer.proofs.Names.{arith, few_sectors, sym, shape_of, true, false, row, ap, take_at, Shape}
use Rattle.std.proofs.Common.{◌≡◌, ◌∙◌}
use Rattle.image_writer.proofs.Sealing.{cluster_ends, cluster_frames, cluster_seal, no_sums_node, page_ends, page_frames, page_seal, plain_ends}
use Rattle.image_writer.proofs.blocks.seal_block.Goals as goal

pub returns-then-shape-clause-frames : goal.returns-then-shape-clause-frames
returns-then-shape-clause-frames c =
    let p = c.args.home.now in
    let has : (shape_of p c.args.number).has_sums ≡ true =
    sym (ap (λ (s : Shape). s.has_sums) c.shape-shape.ensures.value) ∙ c.if-shape.true in
    page_frames p c.args.number c.args.block.now c.seal_page.new.block c.shape-shape.ensures.plan c.requires.object has
    c.seal_page.array_long (rw c.shape-shape.ensures.value at c.seal_page.ensures.frame)

pub returns-then-shape-clause-ends : goal.returns-then-shape-clause-ends
returns-then-shape-clause-ends c =
    let p = c.args.home.now in
    let has : (shape_of p c.args.number).has_sums ≡ true =
    sym (ap (λ (s : Shape). s.has_sums) c.shape-shape.ensures.value) ∙ c.if-shape.true in
    page_ends p c.args.number c.args.block.now c.seal_page.new.block c.shape-shape.ensures.plan c.requires.object has
    c.seal_page.array_long c.seal_page.ensures.summed

pub returns-then-shape-clause-seal : goal.returns-then-shape-clause-seal
returns-then-shape-clause-seal c = λ _.
    let p = c.args.home.now in
    let has : (shape_of p c.args.number).has_sums ≡ true =
    sym (ap (λ (s : Shape). s.has_sums) c.shape-shape.ensures.value) ∙ c.if-shape.true in
    page_seal p c.args.number c.args.block.now c.seal_page.new.block c.shape-shape.ensures.plan c.requires.object has
    c.seal_page.array_long c.seal_page.ensures.seal

pub returns-then-sealed-clause-frames : goal.returns-then-sealed-clause-frames
returns-then-sealed-clause-frames c =
    let p = c.args.home.now in
    let none = sym (ap (λ (s : Shape). s.has_sums) c.shape-shape.ensures.value) ∙ c.if-shape.false in
    let sealed : (row p.version).sealed ≡ true = sym c.is_sealed-sealed.ensures.value ∙ c.if-sealed.true in
    cluster_frames p c.args.number c.first.result c.cluster_count-nodes.result c.args.block.now _ c.seal_nodes.new.cluster
    c.first.ensures.plan c.requires.object sealed (no_sums_node p c.args.number sealed none) c.first.ensures.first
    c.cluster_count-nodes.ensures.value c.cluster_count-nodes.ensures.few
    (take_at c.seal_nodes.new.cluster _ 4096 c.seal_nodes.ensures.size) c.seal_nodes.ensures.frames

pub returns-then-sealed-clause-ends : goal.returns-then-sealed-clause-ends
returns-then-sealed-clause-ends c =
    let p = c.args.home.now in
    let none = sym (ap (λ (s : Shape). s.has_sums) c.shape-shape.ensures.value) ∙ c.if-shape.false in
    let sealed : (row p.version).sealed ≡ true = sym c.is_sealed-sealed.ensures.value ∙ c.if-sealed.true in
    cluster_ends p c.args.number c.first.result c.cluster_count-nodes.result c.args.block.now _ c.seal_nodes.new.cluster
    c.first.ensures.plan c.requires.object sealed (no_sums_node p c.args.number sealed none) c.first.ensures.first
    c.cluster_count-nodes.ensures.value c.cluster_count-nodes.ensures.few
    (take_at c.seal_nodes.new.cluster _ 4096 c.seal_nodes.ensures.size) c.seal_nodes.ensures.frames c.seal_nodes.ensures.sealed

pub returns-then-sealed-clause-seal : goal.returns-then-sealed-clause-seal
returns-then-sealed-clause-seal c = λ sealed.
    let p = c.args.home.now in
    let none = sym (ap (λ (s : Shape). s.has_sums) c.shape-shape.ensures.value) ∙ c.if-shape.false in
    cluster_seal p c.args.number c.first.result c.cluster_count-nodes.result c.args.block.now _ c.seal_nodes.new.cluster
    c.first.ensures.plan c.requires.object sealed (no_sums_node p c.args.number sealed none) c.first.ensures.first
    c.cluster_count-nodes.ensures.value c.cluster_count-nodes.ensures.few
    (take_at c.seal_nodes.new.cluster _ 4096 c.seal_nodes.ensures.size) c.seal_nodes.ensures.frames c.seal_nodes.ensures.seal

pub returns-else-sealed-clause-ends : goal.returns-else-sealed-clause-ends
returns-else-sealed-clause-ends c =
    let p = c.args.home.now in
    let plain : (row p.version).sealed ≡ false = sym c.is_sealed-sealed.ensures.value ∙ c.if-sealed.false in
    plain_ends p c.args.number c.args.block.now plain (omega (arith, c.told-block, few_sectors p c.args.number)) c.requires.zeros
