use Rattle.layout.proofs.Names.{ap, entries_bytes, sector_bytes}
use Rattle.std.proofs.Common.{◌∙◌}
use Rattle.layout.proofs.sealed.directory.encode_entries.Goals as goal

pub returns : goal.returns
unfolding entries_bytes
returns c = c.encode_sector.ensures ∙ ap sector_bytes c.put_entries.ensures
