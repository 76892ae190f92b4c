use Rattle.reach.proofs.Names.{is_marked, length, Grows, links}
use Rattle.std.proofs.Common.{◌≡◌}
use Rattle.reach.proofs.changing.follow_back.Given as goal

abbrev pub invariant-loop-turn : goal.invariant-loop-turn
invariant-loop-turn l = record {
  grows : Grows l.objects (links l.purpose (is_marked l.trusted)) l.fn.inside l.inside;
  count : length l.to_follow ≡ length l.fn.to_follow;
}
