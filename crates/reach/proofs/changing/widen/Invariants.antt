use Rattle.reach.proofs.Names.{is_marked, length, Widens, links}
use Rattle.std.proofs.Common.{◌≡◌}
use Rattle.reach.proofs.changing.widen.Given as goal

abbrev pub invariant-loop-number : goal.invariant-loop-number
invariant-loop-number l = record {
  widens : Widens l.objects (links l.purpose (is_marked l.trusted)) l.number l.grew l.fn.inside l.inside;
  count : length l.to_follow ≡ length l.fn.to_follow;
}
