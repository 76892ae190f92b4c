use Rattle.object_cache.proofs.Names.{refl}
use Rattle.object_cache.proofs.Exits.{moves_none}
use Rattle.object_cache.proofs.store.Store.write_back.Goals as goal

pub returns-clause-moves : goal.returns-clause-moves
returns-clause-moves g c = moves_none g.met.D.Device.only_now c.args.self.now refl
