use Rattle.std.proofs.Common.{rules}
use Rattle.cache_entries.proofs.Voids.{all_void}
use Rattle.cache_entries.proofs.nodes.clear_before.Goals as goal

pub returns : goal.returns
returns c = search (rules, all_void)
