use Rattle.devices.proofs.Names.{rules, error_kind, Interrupted}
use Rattle.std.proofs.Common.{◌≢◌, ◌∙◌}
use Rattle.devices.proofs.CallErrors.{failed_after}
use Rattle.devices.proofs.Deeds.{takes_still, takes_zero}
use Rattle.devices.proofs.host_file.put_some.Goals as goal

pub returns-in-Ok-eq0-clause-err : goal.returns-in-Ok-eq0-clause-err
returns-in-Ok-eq0-clause-err g c =
    takes_zero c.args.at _ _ c.args.from.now (rw (← c.loop-tries.invariant.calls) (rw c.in-Ok-eq0.field-0-test at c.in-Ok-eq0.ensures.ok))

pub returns-then-ne-clause-err : goal.returns-then-ne-clause-err
returns-then-ne-clause-err g c = takes_still c.args.at _ _ c.args.from.now (c.in-Err.ensures.err ∙ c.loop-tries.invariant.calls)

pub returns-then-ne-clause-cause : goal.returns-then-ne-clause-cause
returns-then-ne-clause-cause g c =
    let other : error_kind c.in-Err.error ≢ Interrupted = search rules in
    failed_after (g.F.RawFile.errors c.args.file.now) (g.F.RawFile.errors c.loop-tries.file) _ c.loop-tries.tries
    c.loop-tries.invariant.interrupted
    (c.in-Err.ensures.failed other)

pub returns-clause-err : goal.returns-clause-err
returns-clause-err g c = takes_still c.args.at _ _ c.args.from.now c.loop-tries.invariant.calls
