use Rattle.image_describer.proofs.Names.{objects_in, HasLooked}
use Rattle.image_describer.proofs.Telling.{TellBelow}
use Rattle.image_describer.proofs.describing.tell_all.Given as goal

abbrev pub invariant-loop-number : goal.invariant-loop-number
invariant-loop-number g l =
    let os = objects_in (g.F.Frames.parts l.initial.store) in
    record {
      entry_of : TellBelow g.E.DescribedEntry.number_of (g.E.DescribedEntry.Tells os) g.E.DescribedEntry.kind os l.number l.entries.items;
      looked : HasLooked g.F.Frames.parts g.F.Frames.ContinuesTo l.initial.store l.store;
    }
