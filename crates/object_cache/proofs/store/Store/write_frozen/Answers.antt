use Rattle.object_cache.proofs.Names.{ap, frozen_state_at, on_ok_weaker, Nothing, refl}
use Rattle.std.proofs.Common.{◌∙◌}
use Rattle.object_cache.proofs.Exits.{moves_none}
use Rattle.object_cache.proofs.Marking.{set_there}
use Rattle.object_cache.proofs.store.Store.write_frozen.Goals as goal

pub returns-in_default : goal.returns-in_default
returns-in_default g c =
    let n = c.args.number in
    let said = c.put_own_frozen.ensures in
    record {
      frozen_written = on_ok_weaker c.put_own_frozen.result
          (λ is. ap (λ t. frozen_state_at t.frozen_state n) is ∙ set_there c.args.self.now.frozen_state n Nothing) said.put;
      empty = said.empty;
      moves = said.moves;
    }

pub returns-in-Nothing-clause-moves : goal.returns-in-Nothing-clause-moves
returns-in-Nothing-clause-moves g c = moves_none g.met.D.Device.only_now c.args.self.now refl
