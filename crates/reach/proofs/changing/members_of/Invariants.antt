use Rattle.reach.proofs.Sources.{Picks}
use Rattle.reach.proofs.changing.members_of.Given as goal

abbrev pub invariant-loop-number : goal.invariant-loop-number
invariant-loop-number l = Picks l.inside l.numbers l.number-index l.set
