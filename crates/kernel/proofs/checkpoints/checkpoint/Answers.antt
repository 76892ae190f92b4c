use Rattle.kernel.proofs.Names.{err_from_is_err_and, left_in, whole, ap, running}
use Rattle.model.specs.declared.answer.Refusal.TheVariants as refusal
use Rattle.model.specs.declared.command.Command.TheVariants as command
use Rattle.kernel.proofs.Acts.{begun, freeze_cause, freeze_looks, freeze_refused, refused}
use Rattle.kernel.proofs.Stages.{keepable_most, none_there, worn}
use Rattle.kernel.proofs.checkpoints.checkpoint.Goals as goal

pub returns-then-is_worn-clause-serves : goal.returns-then-is_worn-clause-serves
returns-then-is_worn-clause-serves g c =
    refused _ _ _ g.met.D.Device.only_now g.met.S.ObjectStore.sound_holds c.args.live.now command.Checkpoint refusal.Worn
    (λ h up. worn h (running g.D.Device.disk g.S.ObjectStore.view g.S.Frames.parts c.args.live.now)
    (c.is_worn.ensures.worn c.if-is_worn.true))

pub freeze-requires : goal.freeze-requires
freeze-requires g c =
    let up = c.requires in
    record {
      may = record {
        usable = (g.met.S.ObjectStore.usable_is c.args.live.now.store).1 up.1.store;
        keepable = keepable_most up.0 (g.S.Frames.parts c.args.live.now.store) c.args.live.now.age up.1.sound.geometry up.1.sound.now;
      };
    }

pub returns-clause-serves : goal.returns-clause-serves
returns-clause-serves g c =
    let said = c.in_ok-size.ensures in
    begun _ _ _ g.met.D.Device.only_now g.met.S.ObjectStore.sound_holds c.args.live.now c.freeze.new.self c.in_ok-size.size
    (c.is_worn.ensures.young c.if-is_worn.false) (none_there (g.S.ObjectStore.view c.args.live.now.store).snapshots.frozen said.answer.0)
    said.answer.1
    said.same said.size said.snapshots said.beneath said.usable

pub returns-in_err-size : goal.returns-in_err-size
returns-in_err-size g c =
    let p = err_from_is_err_and c.from_residual.result c.from_residual.ensures.1 in
    let snapshots = (g.S.ObjectStore.view c.args.live.now.store).snapshots in
    let said = c.in_err-size.ensures in
    rw (p.1, p.2) (record {
      serves = freeze_refused _ _ _ g.met.D.Device.only_now g.met.S.ObjectStore.sound_holds c.args.live.now c.freeze.new.self _
          said.unchanged
          (c.is_worn.ensures.young c.if-is_worn.false) said.answer;
      cause = freeze_cause _ _ (left_in whole snapshots) snapshots.saved.entries _ said.answer
          (ap (λ d. (g.D.Device.disk d).failures) said.beneath);
      only_reads = freeze_looks (left_in whole snapshots) snapshots.saved.entries _ said.answer;
      no_fault = tt;
    })
