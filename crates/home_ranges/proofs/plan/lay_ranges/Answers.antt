use Rattle.home_ranges.proofs.Laying.{laid_more}
use Rattle.home_ranges.proofs.plan.lay_ranges.Goals as goal

pub loop-i-preserved : goal.loop-i-preserved
loop-i-preserved c =
    rw (c.aligned-next.ensures.value, c.range_extent-extent.ensures)
    (laid_more c.args.version c.args.geometry c.args.ranges.now c.loop-i.into c.loop-i.i c.loop-i.next c.loop-i-test.true
    (c.requires.counts c.loop-i.i (record { first = 0; count = 0 }) c.loop-i-test.true) c.loop-i.invariant)
