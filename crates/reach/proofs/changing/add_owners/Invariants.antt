use Rattle.reach.proofs.Names.{unmarked, length}
use Rattle.std.proofs.Common.{◌≡◌}
use Rattle.reach.proofs.Sources.{Adds}
use Rattle.reach.proofs.changing.add_owners.Given as goal

abbrev pub invariant-loop-inside : goal.invariant-loop-inside
invariant-loop-inside l = record {
  adds : Adds l.objects l.number l.at l.fn.inside l.inside;
  count : length l.to_follow ≡ length l.fn.to_follow;
}

abbrev pub decreases-loop-inside : goal.decreases-loop-inside
decreases-loop-inside l = unmarked l.inside
