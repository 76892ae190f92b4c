use Rattle.names.proofs.Suffixes.{FollowFrom}
use Rattle.std.specs.Char.{is_ascii_digit}
use Rattle.names.proofs.naming.digits_start.Given as goal

abbrev pub invariant-loop-start : goal.invariant-loop-start
invariant-loop-start l = FollowFrom is_ascii_digit l.text l.start

abbrev pub decreases-loop-start : goal.decreases-loop-start
decreases-loop-start l = l.start
