use Rattle.script.proofs.Names.{ℕ, arith, err_from_is_err_and, length-drop, length-take}
use Rattle.std.proofs.Common.{◌∙◌}
use Rattle.script.proofs.CallErrors.{none_trans, one_after}
use Rattle.script.proofs.Fronts.{took_more, wrote_some}
use Rattle.script.proofs.counted.CountedWriter.write_rest.Goals as goal

pub returns-in_err-done-clause-written : goal.returns-in_err-done-clause-written
returns-in_err-done-clause-written g c =
    let p = err_from_is_err_and c.from_residual.result c.from_residual.ensures.1 in
    let fault = c.in_err-done.ensures.fault in
    rw p.1 (
      p.2 ∙ fault,
      wrote_some g.W.RawWriter.held c.args.self.now c.loop-done.self c.write_some.new.self c.args.text.now c.loop-done.done
          c.loop-done.invariant.taken c.loop-done.invariant.not_counted c.in_err-done.ensures.none_taken c.in_err-done.ensures.err,
    )

pub returns-in_err-done-clause-cause : goal.returns-in_err-done-clause-cause
returns-in_err-done-clause-cause g c =
    let p = err_from_is_err_and c.from_residual.result c.from_residual.ensures.1 in
    rw p.1 (one_after _ _ _ c.loop-done.invariant.none_failed c.in_err-done.ensures.cause)

pub loop-done-preserved : goal.loop-done-preserved
loop-done-preserved g c = record {
  within = omega (arith, c.in_ok-done.ensures.count.1, c.loop-done.invariant.within, length-take {A = ℕ}, length-drop {A = ℕ});
  taken = took_more _ _ _ c.args.text.now c.loop-done.done c.in_ok-done.field-0 c.loop-done.invariant.taken c.in_ok-done.ensures.taken;
  none_failed = none_trans (g.W.RawWriter.errors c.args.self.now.inner) (g.W.RawWriter.errors c.loop-done.self.inner) _
      c.loop-done.invariant.none_failed
      c.in_ok-done.ensures.cause;
  not_counted = c.in_ok-done.ensures.ok ∙ c.loop-done.invariant.not_counted;
}
