use Rattle.devices.proofs.Names.{nat_tests, arith, err_from_is_err_and}
use Rattle.std.proofs.Common.{◌∙◌}
use Rattle.devices.proofs.CallErrors.{none_trans, one_after}
use Rattle.devices.proofs.Openings.{fits_within, gets_on}
use Rattle.devices.proofs.open.get_fully.Goals as goal

pub loop-done-preserved : goal.loop-done-preserved
loop-done-preserved g c =
    let old = c.loop-done.into in
    let got = c.get_some.new.into in
    record {
      within = grind (arith, nat_tests, fits_within);
      bytes =
          gets_on c.args.at _ _ old got c.loop-done.done _ c.loop-done.invariant.within c.loop-done.invariant.bytes _ c.in_ok-done.field-0
          c.in_ok-done.ensures.bound.1 c.in_ok-done.ensures.ok;
      length_kept = c.in_ok-done.ensures.length ∙ c.loop-done.invariant.length_kept;
      none_failed =
          none_trans (g.F.RawFile.errors c.args.file.now) (g.F.RawFile.errors c.loop-done.file) _ c.loop-done.invariant.none_failed
          c.in_ok-done.ensures.cause;
      calls = c.in_ok-done.ensures.calls ∙ c.loop-done.invariant.calls;
    }

pub returns-in_err-done-clause-length : goal.returns-in_err-done-clause-length
returns-in_err-done-clause-length g c = c.in_err-done.ensures.length ∙ c.loop-done.invariant.length_kept

pub returns-in_err-done-clause-cause : goal.returns-in_err-done-clause-cause
returns-in_err-done-clause-cause g c =
    let p = err_from_is_err_and c.from_residual.result c.from_residual.ensures.1 in
    rw p.1 (one_after _ _ _ c.loop-done.invariant.none_failed c.in_err-done.ensures.cause)
