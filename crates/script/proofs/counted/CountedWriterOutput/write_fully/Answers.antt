use Rattle.script.proofs.Names.{refl, rules, error_kind, Interrupted}
use Rattle.std.proofs.Common.{◌≡◌}
use Rattle.script.proofs.CallErrors.{cause_after, one_interrupted}
use Rattle.script.proofs.Fronts.{rest_written}
use Rattle.script.proofs.counted.CountedWriterOutput.write_fully.Goals as goal

pub returns-else-count-eq0-clause-written : goal.returns-else-count-eq0-clause-written
returns-else-count-eq0-clause-written g c = rest_written _ _ _ _ _ _ (record { taken = c.in-Ok.ensures.bytes; none_failed = refl })
    c.write_rest.ensures.written

pub returns-else-ne-clause-cause : goal.returns-else-ne-clause-cause
returns-else-ne-clause-cause g c =
    let again : error_kind c.in-Err.error ≡ Interrupted = search rules in
    cause_after (g.W.RawWriter.errors c.args.self.now.inner) (g.W.RawWriter.errors c.put.new.self) _ c.write_rest-in-Err.result
    (one_interrupted _ _ (c.in-Err.ensures.interrupted again)) c.write_rest-in-Err.ensures.cause
