use Rattle.script.proofs.Names.{rules, error_kind, Interrupted}
use Rattle.std.proofs.Common.{◌≢◌}
use Rattle.script.proofs.CallErrors.{failed_after}
use Rattle.script.proofs.counted.CountedWriter.write_some.Goals as goal

pub returns-then-ne-clause-cause : goal.returns-then-ne-clause-cause
returns-then-ne-clause-cause g c =
    let other : error_kind c.in-Err.error ≢ Interrupted = search rules in
    rw c.fail-then-ne.ensures.inner
    (failed_after (g.W.RawWriter.errors c.args.self.now.inner) (g.W.RawWriter.errors c.loop-tries.self.inner) _ c.loop-tries.tries
    c.loop-tries.invariant.interrupted (c.in-Err.ensures.failed other))
