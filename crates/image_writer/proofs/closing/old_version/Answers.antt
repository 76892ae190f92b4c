use Rattle.std.proofs.Common.{◌∙◌, sym}
use Rattle.layout.proofs.Sectors.{one_from}
use Rattle.image_writer.proofs.closing.old_version.Goals as goal

pub returns-clause-named : goal.returns-clause-named
returns-clause-named g c = λ p fits spelt.
    let now = (g.D.Device.disk c.read_sectors.new.device).seen in
    let read = sym c.in_ok-read_sectors.ensures.bytes ∙ one_from now 0 ∙ c.read_sectors.ensures.reads.seen 0 in
    c.version_of.ensures p fits (read ∙ spelt)
