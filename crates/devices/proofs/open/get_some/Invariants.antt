use Rattle.devices.proofs.Names.{length, option_map, more_errors}
use Rattle.std.proofs.Common.{◌≡◌}
use Rattle.devices.proofs.open.get_some.Given as goal

abbrev pub invariant-loop-tries : goal.invariant-loop-tries
invariant-loop-tries g l = record {
  size : length l.into ≡ length l.fn.into;
  opening : g.F.Openable.opening l.file ≡ g.F.Openable.opening l.fn.file;
  calls : g.F.RawFile.calls l.file ≡ g.F.RawFile.calls l.fn.file;
  interrupted : g.F.RawFile.errors l.file ≡ option_map (more_errors 0 l.tries) (g.F.RawFile.errors l.fn.file);
}
