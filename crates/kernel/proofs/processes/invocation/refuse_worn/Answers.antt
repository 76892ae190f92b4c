use Rattle.kernel.proofs.Names.{refl, subst, objects_in, IsEarly}
use Rattle.model.specs.declared.answer.Refusal.TheVariants as refusal
use Rattle.kernel.proofs.Performing.{ok_stayed, refused_serves, reported_cause, early_fine, early_step, worn_step}
use Rattle.kernel.proofs.processes.invocation.refuse_worn.Goals as goal

pub returns-in-Some-clause-serves : goal.returns-in-Some-clause-serves
returns-in-Some-clause-serves g c age sound old_age =
    let old = g.F.Frames.parts c.args.store.now in
    let i = c.args.invocation.now in
    let early = subst (IsEarly (objects_in old) i.process) c.in-Some.is c.in-Ok.ensures.why in
    refused_serves c.early.ensures.fetches.snapshots.same sound c.early.ensures.fetches.snapshots.later
    (reported_cause c.in-Some.refusal (early_fine (objects_in old) i.process c.in-Some.refusal early)
    (ok_stayed c.in-Ok.why c.in-Ok.ensures.fetches.cause))
    (λ renewed frozen saved to_move other. early_step old.geometry _ i c.in-Some.refusal early)

pub returns-in-None-clause-serves : goal.returns-in-None-clause-serves
returns-in-None-clause-serves g c age sound old_age =
    let old = g.F.Frames.parts c.args.store.now in
    let i = c.args.invocation.now in
    let runs = subst (IsEarly (objects_in old) i.process) c.in-None.is c.in-Ok.ensures.why in
    refused_serves c.early.ensures.fetches.snapshots.same sound c.early.ensures.fetches.snapshots.later
    (reported_cause refusal.Worn (λ e. cc) (ok_stayed c.in-Ok.why c.in-Ok.ensures.fetches.cause))
    (λ renewed frozen saved to_move other. worn_step old.geometry _ i runs.0 runs.1 old_age)

pub returns-in-Err-clause-serves : goal.returns-in-Err-clause-serves
returns-in-Err-clause-serves g c age sound old_age =
    refused_serves c.early.ensures.fetches.snapshots.same sound c.early.ensures.fetches.snapshots.later
    (λ e. (c.in-Err.ensures.fetches.cause.0 refl), λ r. refl) (λ renewed frozen saved to_move other. absurd (other refl))
