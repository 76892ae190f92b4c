use Rattle.std.proofs.Common.{◌∙◌}
use Rattle.reach.proofs.Sources.{grows_both}
use Rattle.reach.proofs.changing.add_all_leading.Goals as goal

pub loop-number-preserved : goal.loop-number-preserved
loop-number-preserved c = record {
  grows = grows_both _ _ _ _ _ c.loop-number.invariant.grows c.add_leading.ensures.grows;
  count = c.add_leading.ensures.count ∙ c.loop-number.invariant.count;
}
