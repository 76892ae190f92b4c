use Rattle.cache_entries.proofs.Spreads.{count_is, spread_is}
use Rattle.cache_entries.proofs.places.Places.len.Goals as goal

pub returns : goal.returns
returns c = record { count = count_is c.self.invariant c.self.view_is; spread = spread_is c.self.invariant c.self.view_is }
