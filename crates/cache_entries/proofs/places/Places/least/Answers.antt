use Rattle.cache_entries.proofs.Names.{arith}
use Rattle.cache_entries.proofs.Spreads.{last_below}
use Rattle.cache_entries.proofs.places.Places.least.Goals as goal

pub index-requires : goal.index-requires
index-requires c = omega (
  arith,
  last_below c.self.invariant c.last_place-place.result c.last_place-place.ensures,
  c.self.inside.numbers.ok.0,
)
