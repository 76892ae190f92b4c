use Rattle.cache_entries.proofs.Spreads.{spread_is}
use Rattle.cache_entries.proofs.places.Places.place.Goals as goal

pub returns-clause-spread : goal.returns-clause-spread
returns-clause-spread c = spread_is c.self.invariant c.self.view_is
