use Rattle.layout.proofs.Names.{drop, range_with}
use Rattle.std.proofs.Common.{◌≡◌}
use Rattle.layout.proofs.homes.range_with.Given as goal

abbrev pub invariant-loop-range : goal.invariant-loop-range
invariant-loop-range l = range_with (drop l.range-index l.ranges) l.number ≡ range_with l.ranges l.number
