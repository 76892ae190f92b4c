use Rattle.reach.proofs.Names.{is_marked, length, Grows, links}
use Rattle.std.proofs.Common.{◌≡◌}
use Rattle.reach.proofs.changing.add_all_leading.Given as goal

abbrev pub invariant-loop-number : goal.invariant-loop-number
invariant-loop-number l = record {
  grows : Grows l.objects (links l.purpose (is_marked l.trusted)) l.fn.inside l.inside;
  count : length l.to_follow ≡ length l.fn.to_follow;
}
