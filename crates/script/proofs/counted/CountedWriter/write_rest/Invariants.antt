use Rattle.script.proofs.Names.{length, take, Appends, NoneFailed}
use Rattle.std.proofs.Common.{◌-◌, ◌≤◌, ◌≡◌}
use Rattle.script.proofs.counted.CountedWriter.write_rest.Given as goal

abbrev pub invariant-loop-done : goal.invariant-loop-done
invariant-loop-done g l = record {
  within : l.done ≤ length l.text;
  taken : Appends (g.W.RawWriter.held l.fn.self.inner) (g.W.RawWriter.held l.self.inner) (take l.done l.text);
  none_failed : NoneFailed (g.W.RawWriter.errors l.fn.self.inner) (g.W.RawWriter.errors l.self.inner);
  not_counted : l.self.failures.number ≡ l.fn.self.failures.number;
}

abbrev pub decreases-loop-done : goal.decreases-loop-done
decreases-loop-done g l = length l.text - l.done
