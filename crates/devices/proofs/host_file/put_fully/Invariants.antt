use Rattle.devices.proofs.Names.{length, take, NoneFailed, Takes}
use Rattle.std.proofs.Common.{◌-◌, ◌≤◌}
use Rattle.devices.proofs.host_file.put_fully.Given as goal

abbrev pub invariant-loop-done : goal.invariant-loop-done
invariant-loop-done g l = record {
  within : l.done ≤ length l.from;
  taken : Takes l.at (g.F.RawFile.calls l.fn.file) (g.F.RawFile.calls l.file) (take l.done l.from);
  none_failed : NoneFailed (g.F.RawFile.errors l.fn.file) (g.F.RawFile.errors l.file);
}

abbrev pub decreases-loop-done : goal.decreases-loop-done
decreases-loop-done g l = length l.from - l.done
