use Rattle.std.proofs.Common.{rules}
use Rattle.layout.proofs.SealedEntries.{all_put, entry_taken}
use Rattle.layout.proofs.sealed.directory.take_entries.Goals as goal

pub loop-i-preserved : goal.loop-i-preserved
loop-i-preserved c = search (rules, entry_taken)

pub returns : goal.returns
returns c = search (rules, all_put)
