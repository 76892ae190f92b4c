use Rattle.ckpt_log.proofs.Names.{rules}
use Rattle.ckpt_log.proofs.Directories.{no_entries, none_behind}
use Rattle.ckpt_log.proofs.log.Log.write_directory.Goals as goal

pub returns-then-is_empty-clause-written : goal.returns-then-is_empty-clause-written
returns-then-is_empty-clause-written g c = search (rules, no_entries)

pub returns-then-is_empty-clause-rest : goal.returns-then-is_empty-clause-rest
returns-then-is_empty-clause-rest g c = search (rules, none_behind)
