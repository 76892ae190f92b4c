use Rattle.kernel.proofs.Names.{err_from_is_err_and, left_in, whole}
use Rattle.kernel.proofs.Acts.{stabilize_cause, stabilize_looks, stabilize_refused, stabilize_went, unfailed}
use Rattle.kernel.proofs.Stages.{some_left_after}
use Rattle.kernel.proofs.checkpoints.stabilize.Goals as goal

pub returns-clause-serves : goal.returns-clause-serves
returns-clause-serves g c =
    let said = c.in_ok-left.ensures in
    let failures = g.met.S.ObjectStore.failures_are in
    let there = some_left_after (g.S.ObjectStore.view c.args.live.now.store).snapshots.frozen c.args.count c.in_ok-left.left said.answer.1
    in
    stabilize_went _ _ _ g.met.D.Device.only_now g.met.S.ObjectStore.sound_holds c.args.live.now c.stabilize.new.self
    said.size there.0 there.1 said.any_moment c.args.count
    (said.same (unfailed (failures c.args.live.now.store) (failures c.stabilize.new.self) said.answer.0)) c.in_ok-left.left there.2
    (said.snapshots there.0 there.1) said.usable

pub returns-in_err-left : goal.returns-in_err-left
returns-in_err-left g c =
    let p = err_from_is_err_and c.from_residual.result c.from_residual.ensures.1 in
    let snapshots = (g.S.ObjectStore.view c.args.live.now.store).snapshots in
    let said = c.in_err-left.ensures in
    rw (p.1, p.2) (record {
      serves = stabilize_refused _ _ _ g.met.D.Device.only_now g.met.S.ObjectStore.sound_holds c.args.live.now c.stabilize.new.self
          said.size _ c.args.count said.answer said.unchanged said.any_moment;
      cause = stabilize_cause _ _ (left_in whole snapshots) c.args.count _ said.answer;
      only_reads = stabilize_looks (g.D.Device.disk (g.S.ObjectStore.view c.args.live.now.store).beneath)
          (g.D.Device.disk (g.S.ObjectStore.view c.stabilize.new.self).beneath) (left_in whole snapshots) c.args.count _ said.answer;
      no_fault = tt;
    })
