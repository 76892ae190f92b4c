use Rattle.layout.proofs.Names.{rules, get_or_default}
use Rattle.layout.proofs.SealedEntries.{all_put, entry_put}
use Rattle.layout.proofs.sealed.directory.put_entries.Goals as goal

pub loop-i-preserved : goal.loop-i-preserved
loop-i-preserved c = search (rules, entry_put, get_or_default)

pub returns : goal.returns
returns c = search (rules, all_put)
