use Rattle.names.proofs.Suffixes.{FollowFrom}
use Rattle.names.specs.Output.{is_in_line}
use Rattle.names.proofs.lines.lines_end.Given as goal

abbrev pub invariant-loop-end : goal.invariant-loop-end
invariant-loop-end l = FollowFrom is_in_line l.text l.end

abbrev pub decreases-loop-end : goal.decreases-loop-end
decreases-loop-end l = l.end
