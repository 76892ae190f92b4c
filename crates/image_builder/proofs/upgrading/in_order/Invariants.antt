use Rattle.image_builder.proofs.Names.{drop, numbered}
use Rattle.std.proofs.Common.{◌≡◌, ◌++◌}
use Rattle.image_builder.proofs.upgrading.in_order.Given as goal

abbrev pub invariant-loop-slot : goal.invariant-loop-slot
invariant-loop-slot l = l.found.items ++ numbered l.slot (drop l.slot l.entries) ≡ numbered 0 l.entries
