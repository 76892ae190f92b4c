use Rattle.reach.proofs.Names.{take, objects_in}
use Rattle.std.proofs.Common.{◌≡◌}
use Rattle.reach.proofs.world.read_objects.Given as goal

abbrev pub invariant-loop-number : goal.invariant-loop-number
invariant-loop-number g l =
    let parts = g.F.Frames.parts in
    record {
      read : l.objects.items ≡ take l.number (objects_in (parts l.initial.store));
      same : parts l.store ≡ parts l.initial.store;
      continues : g.F.Frames.ContinuesTo l.initial.store l.store;
    }
