use Rattle.layout.proofs.Versions.{few_entries}
use Rattle.layout.proofs.extent.directory_length.Goals as goal

pub returns-clause-few : goal.returns-clause-few
returns-clause-few c = rw c.row-in_sector.ensures.value (few_entries c.args.version c.args.entries c.requires)
