use Rattle.devices.proofs.Names.{ℕ, arith, err_from_is_err_and, length-drop, length-take}
use Rattle.devices.proofs.CallErrors.{none_trans, one_after}
use Rattle.devices.proofs.Deeds.{takes_on, takes_then}
use Rattle.devices.proofs.host_file.put_fully.Goals as goal

pub loop-done-preserved : goal.loop-done-preserved
loop-done-preserved g c = record {
  within = omega (arith, c.in_ok-done.ensures.bound.1, c.loop-done.invariant.within, length-take {A = ℕ}, length-drop {A = ℕ});
  taken =
      takes_on c.args.at _ _ _ c.args.from.now c.loop-done.done c.in_ok-done.field-0 c.loop-done.invariant.within
      c.loop-done.invariant.taken
      c.in_ok-done.ensures.ok;
  none_failed =
      none_trans (g.F.RawFile.errors c.args.file.now) (g.F.RawFile.errors c.loop-done.file) _ c.loop-done.invariant.none_failed
      c.in_ok-done.ensures.cause;
}

pub returns-in_err-done-clause-err : goal.returns-in_err-done-clause-err
returns-in_err-done-clause-err g c =
    let p = err_from_is_err_and c.from_residual.result c.from_residual.ensures.1 in
    rw p.1
    (takes_then c.args.at _ _ _ c.args.from.now c.loop-done.done c.loop-done.invariant.within c.loop-done.invariant.taken
    c.in_err-done.ensures.err)

pub returns-in_err-done-clause-cause : goal.returns-in_err-done-clause-cause
returns-in_err-done-clause-cause g c =
    let p = err_from_is_err_and c.from_residual.result c.from_residual.ensures.1 in
    rw p.1 (one_after _ _ _ c.loop-done.invariant.none_failed c.in_err-done.ensures.cause)
