use Rattle.std.proofs.Common.{rules}
use Rattle.recovery.proofs.Named.{named_live, named_stale}
use Rattle.recovery.proofs.consistency.capabilities.is_named.Goals as goal

pub returns-then-held-current : goal.returns-then-held-current
returns-then-held-current g c = search (rules, named_live)

pub returns : goal.returns
returns g c = search (rules, named_stale)
