use Rattle.std.proofs.Common.{◌≡◌, replicate}
use Rattle.model.proofs.slots.Slots.new.Given as goal

abbrev pub invariant-loop : goal.invariant-loop
invariant-loop g l = l.items.items ≡ replicate l.counter l.held
