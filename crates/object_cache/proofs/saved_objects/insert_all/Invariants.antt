use Rattle.object_cache.proofs.Names.{AreInserted}
use Rattle.object_cache.proofs.saved_objects.insert_all.Given as goal

abbrev pub invariant-loop-number : goal.invariant-loop-number
invariant-loop-number l = AreInserted l.entries l.number l.count
