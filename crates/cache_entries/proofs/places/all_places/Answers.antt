use Rattle.cache_entries.proofs.Names.{rules, length-map}
use Rattle.cache_entries.proofs.Orders.{filled_more, new_keys, not_yet}
use Rattle.cache_entries.proofs.places.all_places.Goals as goal

pub loop-place-preserved : goal.loop-place-preserved
loop-place-preserved c = search (rules, length-map, new_keys, not_yet, filled_more)
