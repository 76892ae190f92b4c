use Rattle.description.proofs.BrokenLimits.{ranges_decide}
use Rattle.description.proofs.limits.bad_layout.Goals as goal

pub returns-in-Some : goal.returns-in-Some
returns-in-Some c =
    ranges_decide c.args.description.now c.deref.result.now c.bad_ranges.result c.in-Some.field-0 c.requires.geometry c.deref.ensures.value
    c.in-Some.ensures.some c.requires.age
    c.bad_ranges.ensures
