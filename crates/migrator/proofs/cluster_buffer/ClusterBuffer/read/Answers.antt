use Rattle.migrator.proofs.Names.{sym}
use Rattle.std.proofs.Common.{◌∙◌}
use Rattle.migrator.proofs.PlacesApart.{unwritten_bytes, buffer_read}
use Rattle.migrator.proofs.cluster_buffer.ClusterBuffer.read.Goals as goal

pub returns : goal.returns
returns c u is =
    let bytes = unwritten_bytes c.self.inside.sector (c.self.view_is ∙ is) in
    buffer_read is c.requires.spelt (c.deref.ensures.value ∙ sym bytes) c.in-Ok.ensures.found
