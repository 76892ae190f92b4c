use Rattle.queries.proofs.Names.{map, take, range_line}
use Rattle.std.proofs.Common.{◌≡◌, ◌++◌}
use Rattle.queries.proofs.info.push_ranges.Given as goal

abbrev pub invariant-loop-range : goal.invariant-loop-range
invariant-loop-range l = l.lines.items ≡ l.fn.lines.items ++ map range_line (take l.range-index l.ranges)
