use Rattle.std.proofs.Common.{◌≡◌, replicate}
use Rattle.model.specs.declared.object.Content.TheVariants as content
use Rattle.description.proofs.world.World.free.Given as goal

abbrev pub invariant-loop : goal.invariant-loop
invariant-loop l = l.contents.items ≡ replicate l.counter content.Free
