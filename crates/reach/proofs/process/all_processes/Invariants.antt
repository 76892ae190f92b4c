use Rattle.reach.proofs.Listing.{Lists}
use Rattle.reach.proofs.process.all_processes.Given as goal

abbrev pub invariant-loop-number : goal.invariant-loop-number
invariant-loop-number l = Lists l.objects l.number l.all.items
