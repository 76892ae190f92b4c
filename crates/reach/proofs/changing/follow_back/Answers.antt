use Rattle.reach.proofs.Names.{ap, false, length, length-set, Bool, List}
use Rattle.std.proofs.Common.{◌∙◌}
use Rattle.reach.proofs.Sources.{grows_both}
use Rattle.reach.proofs.changing.follow_back.Goals as goal
use Rattle.reach.proofs.changing.follow_back.Goals.{in-Some, in_default}

pub loop-turn-preserved : goal.loop-turn-preserved
loop-turn-preserved c =
    let i = c.loop-turn.invariant in
    elim c.match-next.branch [
      | in-Some w ↦ record {
        grows = rw w.inside-is (grows_both _ _ _ _ _ i.grows w.add_all_leading.ensures.grows);
        count = rw w.to_follow-is (w.add_all_leading.ensures.count ∙ ap (λ (l : List Bool). length l) w.set.ensures
            ∙ length-set c.loop-turn.to_follow _ false ∙ i.count);
      }
      | in_default w ↦ record { grows = rw w.inside-is i.grows; count = rw w.to_follow-is i.count }
    ]
