use Rattle.capability.specs.Parts.{objects_in}
use Rattle.space_bank.proofs.Tallies.{Climbs, IsShifting}
use Rattle.space_bank.proofs.chains.shift.Given as goal

abbrev pub invariant-loop-step : goal.invariant-loop-step
invariant-loop-step g l = record {
  climbs : Climbs (objects_in (g.F.Frames.parts l.store)) l.bank l._step l.current;
  shifting : IsShifting (objects_in (g.F.Frames.parts l.store)) l.bank l.current l.more l.less l.initial.usages l.usages;
}
