use Rattle.reach.proofs.Searches.{IsSetOf}
use Rattle.reach.proofs.searching.set_of.Given as goal

abbrev pub invariant-loop-number : goal.invariant-loop-number
invariant-loop-number l = IsSetOf l.numbers l.number-index l.total l.set
