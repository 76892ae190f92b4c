use Rattle.home_ranges.proofs.Names.{ℕ, ap}
use Rattle.std.proofs.Common.{◌-◌, ◌%◌}
use Rattle.home_ranges.proofs.Places.{first_is, no_range}
use Rattle.home_ranges.proofs.home.Home.first.Goals as goal

pub returns-in-Some-clause-first : goal.returns-in-Some-clause-first
returns-in-Some-clause-first c =
    first_is c.frames_in_block-frames.ensures.plan c.requires.object (rw c.self.view_is at c.in-Some.ensures.value)
    (ap (λ (k : ℕ). c.args.number - (c.args.number - c.in-Some.range.first) % k) c.frames_in_block-frames.ensures.value)

pub returns-in-None-clause-first : goal.returns-in-None-clause-first
returns-in-None-clause-first c =
    absurd (no_range c.frames_in_block-frames.ensures.plan c.requires.object (rw c.self.view_is at c.in-None.ensures.value))
