use Rattle.ckpt_log.proofs.Names.{rules}
use Rattle.ckpt_log.proofs.Directories.{no_entries}
use Rattle.ckpt_log.proofs.log.Log.read_directory.Goals as goal

pub returns-then-is_empty-clause-found : goal.returns-then-is_empty-clause-found
returns-then-is_empty-clause-found g c = search (rules, no_entries)
