use Rattle.reach.proofs.Names.{take, count_by}
use Rattle.std.proofs.Common.{◌≡◌}
use Rattle.reach.proofs.printing.count_members.Given as goal

abbrev pub invariant-loop-number : goal.invariant-loop-number
invariant-loop-number l = record {
  counted : l.count ≡ count_by (λ b. b) (take l.number l.inside);
}
