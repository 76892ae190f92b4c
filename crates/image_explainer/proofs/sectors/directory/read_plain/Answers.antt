use Rattle.image_explainer.proofs.Names.{Image, Plan, arith, ap, sym, agrees_is, directory_sector, sectors_from, length}
use Rattle.std.proofs.Common.{◌∙◌}
use Rattle.image_explainer.proofs.Directories.{inside, plain_holds}
use Rattle.image_explainer.proofs.sectors.directory.read_plain.Goals as goal

pub read_sectors-requires-clause-inside : goal.read_sectors-requires-clause-inside
read_sectors-requires-clause-inside g c =
    inside c.args.plan.now c.new.result c.version.result c.directory_sector-at.result c.directory_length-sectors.result
    (length c.args.into.now) (g.D.Device.disk c.args.device.now).sectors c.new.ensures c.version.ensures.value
    c.directory_sector-at.ensures.inside
    c.directory_length-sectors.ensures.value (omega (arith, c.requires.count, c.requires.header.fits.entries)) c.requires.plan.whole

pub returns-clause-found : goal.returns-clause-found
returns-clause-found g c =
    let old = (g.D.Device.disk c.args.device.now).seen in
    let new = (g.D.Device.disk c.read_sectors.new.device).seen in
    plain_holds (g.D.Device.disk c.args.device.now).sectors old c.args.plan.now c.args.header c.requires.plan c.requires.header
    c.requires.plain c.take_entries.new.into c.directory_sector-at.result c.directory_length-sectors.result (length c.args.into.now)
    c.version.result c.read_sectors.new.into c.take_entries.ensures.size c.requires.count c.take_entries.ensures.fits
    (c.directory_sector-at.ensures.value ∙ ap (λ (q : Plan). directory_sector q c.args.header.header.generation) c.new.ensures)
    c.version.ensures.value c.directory_length-sectors.ensures.value
    (sym c.in_ok-read_sectors.ensures.bytes
    ∙ ap (λ (i : Image). sectors_from i c.directory_sector-at.result c.directory_length-sectors.result)
    (agrees_is new old c.read_sectors.ensures.reads.seen))
    c.take_entries.ensures.bytes
