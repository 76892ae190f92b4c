use Rattle.migrator.proofs.Names.{rules, row, true, false, sym, ap, on_ok_weaker, agrees_is, Shape, false≢true}
use Rattle.std.proofs.Common.{◌≡◌, ◌∙◌}
use Rattle.migrator.proofs.Blocks.{block_gathered}
use Rattle.migrator.proofs.Gathering.{block_read}
use Rattle.migrator.proofs.Publishing.{on_ok}
use Rattle.migrator.proofs.copy.take_block.Goals as goal

pub returns-then-sealed-clause-gathered : goal.returns-then-sealed-clause-gathered
returns-then-sealed-clause-gathered g c =
    let p = c.args.plan.now in
    let old = (g.D.Device.disk c.args.device.now).seen in
    let new = (g.D.Device.disk c.read_sectors.new.device).seen in
    let sealed : (row c.args.plan.now.version).sealed ≡ true = search rules in
    on_ok_weaker c.read_sectors.result
    (λ there. block_gathered old p c.args.generation c.args.directory.now c.args.number c.read_sectors.new.into c.version.ensures.fits
    c.requires.object sealed there)
    (block_read c.read_sectors.result old new p c.args.generation c.args.directory.now c.args.number c.read_sectors.new.into
    (agrees_is new old c.read_sectors.ensures.reads.seen) c.frame_sector-at.ensures.value
    (ap (λ (s : Shape). s.sectors) c.shape-shape.ensures.value) c.read_sectors.ensures.bytes)

pub returns-then-sealed-clause-whole : goal.returns-then-sealed-clause-whole
returns-then-sealed-clause-whole g c =
    let old = (g.D.Device.disk c.args.device.now).seen in
    let new = (g.D.Device.disk c.read_sectors.new.device).seen in
    on_ok_weaker c.read_sectors.result (λ there sealed. there)
    (block_read c.read_sectors.result old new c.args.plan.now c.args.generation c.args.directory.now c.args.number
    c.read_sectors.new.into (agrees_is new old c.read_sectors.ensures.reads.seen) c.frame_sector-at.ensures.value
    (ap (λ (s : Shape). s.sectors) c.shape-shape.ensures.value) c.read_sectors.ensures.bytes)

pub returns-then-sealed-clause-zeros : goal.returns-then-sealed-clause-zeros
returns-then-sealed-clause-zeros g c =
    let sealed : (row c.args.plan.now.version).sealed ≡ true = search rules in
    on_ok c.read_sectors.result (λ plain. absurd (false≢true (sym plain ∙ sealed)))

pub returns-else-sealed-clause-whole : goal.returns-else-sealed-clause-whole
returns-else-sealed-clause-whole g c =
    let plain : (row c.args.plan.now.version).sealed ≡ false = search rules in
    on_ok c.gather.result (λ sealed. absurd (false≢true (sym plain ∙ sealed)))
