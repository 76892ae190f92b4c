use Rattle.script.proofs.Names.{option_map, Keeps, more_errors}
use Rattle.std.proofs.Common.{◌≡◌}
use Rattle.script.proofs.counted.CountedWriter.write_some.Given as goal

abbrev pub invariant-loop-tries : goal.invariant-loop-tries
invariant-loop-tries g l = record {
  none_taken : Keeps (g.W.RawWriter.held l.fn.self.inner) (g.W.RawWriter.held l.self.inner);
  interrupted : g.W.RawWriter.errors l.self.inner ≡ option_map (more_errors 0 l.tries) (g.W.RawWriter.errors l.fn.self.inner);
  none_failed : l.self.failures.number ≡ l.fn.self.failures.number;
}
