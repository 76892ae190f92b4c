use Rattle.reach.proofs.Names.{sym}
use Rattle.reach.proofs.Searches.{level_next, level_skip}
use Rattle.reach.proofs.searching.follow_level.Goals as goal
use Rattle.reach.proofs.searching.follow_level.Goals.{then-is_at, else-is_at}

pub loop-number-preserved : goal.loop-number-preserved
loop-number-preserved c =
    let os = c.args.objects.now in
    let i = c.loop-number.number in
    elim c.if-is_at.branch [
      | then-is_at w ↦ rw (w.levels-is) (level_next os _ _ _ _ i c.loop-number.invariant _ (sym w.if-is_at.ensures)
          w.find_of_object.ensures)
      | else-is_at w ↦ rw (w.levels-is) (level_skip os _ _ _ _ i c.loop-number.invariant (sym w.if-is_at.ensures))
    ]
