use Rattle.devices.proofs.Names.{length, take, Gets, KeepsLength}
use Rattle.std.proofs.Common.{◌≡◌, ◌*◌}
use Rattle.devices.proofs.open.get_sectors.Given as goal

abbrev pub invariant-loop-i : goal.invariant-loop-i
invariant-loop-i g l = record {
  bytes : Gets (g.F.Openable.opening l.fn.file) (g.F.Openable.opening l.file) (take (65536 * l.i) l.copy);
  size : length l.copy ≡ length l.fn.copy;
  length_kept : KeepsLength (g.F.Openable.opening l.fn.file) (g.F.Openable.opening l.file);
  calls : g.F.RawFile.calls l.file ≡ g.F.RawFile.calls l.fn.file;
}
