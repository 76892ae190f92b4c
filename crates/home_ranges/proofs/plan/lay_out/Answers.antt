use Rattle.home_ranges.proofs.Names.{arith, sym, false≢true}
use Rattle.std.proofs.Common.{◌∙◌}
use Rattle.home_ranges.proofs.LaidPlans.{few_counts, laid_out, not_laid_out}
use Rattle.home_ranges.proofs.plan.lay_out.Goals as goal
use Rattle.home_ranges.proofs.plan.lay_out.Goals.{then-geometry-via-then-geometry, then-geometry-via-else-geometry+then-ranges-gt-MAX_RANGES}
use Rattle.home_ranges.proofs.plan.lay_out.Goals.{then-geometry-via-else-geometry+else-ranges-gt-MAX_RANGES+then-not-are_few}

pub returns-then-geometry-clause-refused : goal.returns-then-geometry-clause-refused
returns-then-geometry-clause-refused c may = elim c.then-geometry.branch [
  | then-geometry-via-then-geometry w ↦ omega (arith, w.if-geometry.true, may.geometry.most_log)
  | then-geometry-via-else-geometry+then-ranges-gt-MAX_RANGES w ↦ omega (arith, w.if-ranges-gt-MAX_RANGES.true, may.few)
  | then-geometry-via-else-geometry+else-ranges-gt-MAX_RANGES+then-not-are_few w ↦ false≢true
      (sym w.if-not-are_few.true ∙ w.are_few.ensures.1 (few_counts c.args.geometry c.args.ranges.now may))
]

pub returns-clause-allowed : goal.returns-clause-allowed
returns-clause-allowed c =
    laid_out c.args.version c.args.geometry c.args.ranges.now c.new.result
    (rw (c.half_extent-half.ensures.value, c.lay_ranges-first.ensures.end, c.lay_ranges-first.ensures.laid) at c.new.ensures.some)
    c.new.ensures.fits

pub returns-clause-refused : goal.returns-clause-refused
returns-clause-refused c =
    not_laid_out c.args.version c.args.geometry c.args.ranges.now c.new.result
    (rw (c.half_extent-half.ensures.value, c.lay_ranges-first.ensures.end, c.lay_ranges-first.ensures.laid) at c.new.ensures.none)
