use Rattle.kernel.proofs.Names.{err_from_is_err_and, left_in, whole, sym}
use Rattle.kernel.proofs.Acts.{commit_cause, commit_looks, commit_refused, commit_went, may_commit, unfailed}
use Rattle.kernel.proofs.Stages.{some_left}
use Rattle.kernel.proofs.checkpoints.commit.Goals as goal

pub commit-requires-clause-ready : goal.commit-requires-clause-ready
commit-requires-clause-ready g c = λ f frozen. may_commit _ _ _ c.args.live.now c.requires f frozen

pub returns-clause-serves : goal.returns-clause-serves
returns-clause-serves g c =
    let said = c.in_ok-generation.ensures in
    let failures = g.met.S.ObjectStore.failures_are in
    let there = some_left (g.S.ObjectStore.view c.args.live.now.store).snapshots.frozen 0 (sym said.answer.1) in
    commit_went _ _ _ g.met.D.Device.only_now g.met.S.ObjectStore.sound_holds c.args.live.now c.commit.new.self
    said.size there.0 there.1 there.2 (said.any_moment there.0 there.1 there.2)
    (said.same (unfailed (failures c.args.live.now.store) (failures c.commit.new.self) said.answer.0)) c.in_ok-generation.generation
    said.answer.2
    (said.snapshots there.0 there.1) said.usable

pub returns-in_err-generation : goal.returns-in_err-generation
returns-in_err-generation g c =
    let p = err_from_is_err_and c.from_residual.result c.from_residual.ensures.1 in
    let snapshots = (g.S.ObjectStore.view c.args.live.now.store).snapshots in
    let said = c.in_err-generation.ensures in
    rw (p.1, p.2) (record {
      serves = commit_refused _ _ _ g.met.D.Device.only_now g.met.S.ObjectStore.sound_holds c.args.live.now c.commit.new.self
          said.size _ said.answer said.unchanged said.any_moment;
      cause = commit_cause _ _ (left_in whole snapshots) snapshots.saved.generation _ said.answer;
      only_reads = commit_looks (g.D.Device.disk (g.S.ObjectStore.view c.args.live.now.store).beneath)
          (g.D.Device.disk (g.S.ObjectStore.view c.commit.new.self).beneath) (left_in whole snapshots) snapshots.saved.generation _
          said.answer;
      no_fault = tt;
    })
