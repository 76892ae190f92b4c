use Rattle.devices.proofs.Names.{option_map, more_errors}
use Rattle.std.proofs.Common.{◌≡◌}
use Rattle.devices.proofs.host_file.put_some.Given as goal

abbrev pub invariant-loop-tries : goal.invariant-loop-tries
invariant-loop-tries g l = record {
  calls : g.F.RawFile.calls l.file ≡ g.F.RawFile.calls l.fn.file;
  interrupted : g.F.RawFile.errors l.file ≡ option_map (more_errors 0 l.tries) (g.F.RawFile.errors l.fn.file);
}
