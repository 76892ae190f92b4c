use Rattle.devices.proofs.Names.{length, take, GetsFrom, KeepsLength, NoneFailed}
use Rattle.std.proofs.Common.{◌-◌, ◌≡◌, ◌≤◌}
use Rattle.devices.proofs.open.get_fully.Given as goal

abbrev pub invariant-loop-done : goal.invariant-loop-done
invariant-loop-done g l = record {
  within : l.done ≤ length l.into;
  bytes : GetsFrom l.at (g.F.Openable.opening l.fn.file) (g.F.Openable.opening l.file) (take l.done l.into);
  length_kept : KeepsLength (g.F.Openable.opening l.fn.file) (g.F.Openable.opening l.file);
  none_failed : NoneFailed (g.F.RawFile.errors l.fn.file) (g.F.RawFile.errors l.file);
  calls : g.F.RawFile.calls l.file ≡ g.F.RawFile.calls l.fn.file;
}

abbrev pub decreases-loop-done : goal.decreases-loop-done
decreases-loop-done g l = length l.into - l.done
