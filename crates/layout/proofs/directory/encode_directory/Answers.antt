use Rattle.layout.proofs.Names.{rules, get_or_default}
use Rattle.layout.proofs.Directories.{entry_written}
use Rattle.layout.proofs.directory.encode_directory.Goals as goal

pub loop-i-preserved : goal.loop-i-preserved
loop-i-preserved c = search (rules, entry_written, get_or_default)
