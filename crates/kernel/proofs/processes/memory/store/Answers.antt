use Rattle.kernel.proofs.Names.{err_from_is_err_and, Ok, Err, subst, sym, ap, objects_in, IsEarly, Parts}
use Rattle.std.proofs.Common.{◌∙◌}
use Rattle.kernel.proofs.MemoryServing.{stored_counted, early_store, store_answers, store_refused}
use Rattle.kernel.proofs.Acts.{counted_still}
use Rattle.kernel.proofs.Performing.{ok_stayed, early_none}
use Rattle.kernel.proofs.processes.memory.store.Goals as goal

pub returns-in-Some-clause-serves : goal.returns-in-Some-clause-serves
returns-in-Some-clause-serves g c age sound =
    early_store c.args.process c.args.address c.in-Some.why
    sound (subst (IsEarly (objects_in (g.F.Frames.parts c.args.store.now)) c.args.process) c.in-Some.is c.in_ok-why.ensures.why)
    c.early.ensures.fetches.snapshots (ok_stayed c.in_ok-why.field-0 c.in_ok-why.ensures.fetches.cause) c.args.word

pub returns-in-Ok-clause-serves : goal.returns-in-Ok-clause-serves
returns-in-Ok-clause-serves g c age sound =
    let said = c.in_ok-store.ensures in
    store_answers (g.F.Frames.parts c.store.new.frames) c.args.process c.args.address
    sound (early_none (objects_in (g.F.Frames.parts c.args.store.now)) c.args.process c.in_ok-why.field-0 c.in_default.not-Some
    c.in_ok-why.ensures.why)
    c.in_ok-why.ensures.fetches.same c.args.word said.writes.geometry
    said.writes.headers said.writes.later
    c.in_ok-store.field-0 (Ok tt) c.in-Ok.is said.stored said.writes.sound said.writes.cause

pub returns-in-Err-clause-serves : goal.returns-in-Err-clause-serves
returns-in-Err-clause-serves g c age sound =
    let said = c.in_ok-store.ensures in
    store_answers (g.F.Frames.parts c.store.new.frames) c.args.process c.args.address
    sound (early_none (objects_in (g.F.Frames.parts c.args.store.now)) c.args.process c.in_ok-why.field-0 c.in_default.not-Some
    c.in_ok-why.ensures.why)
    c.in_ok-why.ensures.fetches.same c.args.word said.writes.geometry
    said.writes.headers said.writes.later
    c.in_ok-store.field-0 (Err c.in-Err.fault) c.in-Err.is said.stored said.writes.sound said.writes.cause

pub returns-in_err-store-clause-serves : goal.returns-in_err-store-clause-serves
returns-in_err-store-clause-serves g c age sound =
    let p = err_from_is_err_and c.from_residual-in_err-store.result c.from_residual-in_err-store.ensures.1 in
    let said = c.in_err-store.ensures in
    rw (p.1, p.2) (store_refused (g.F.Frames.parts c.store.new.frames) c.args.process c.args.address
    sound (early_none (objects_in (g.F.Frames.parts c.args.store.now)) c.args.process c.in_ok-why.field-0 c.in_default.not-Some
    c.in_ok-why.ensures.why)
    c.in_ok-why.ensures.fetches.same c.args.word _ said.writes.refusals said.writes.same said.writes.later said.writes.cause said.full)

pub returns-in-Ok-clause-counted : goal.returns-in-Ok-clause-counted
returns-in-Ok-clause-counted g c banks counted stayed =
    let said = c.in_ok-store.ensures in
    let same = c.in_ok-why.ensures.fetches.same in
    stored_counted (g.F.Frames.parts c.early.new.store) (g.F.Frames.parts c.store.new.frames) banks c.args.process c.args.address
    c.args.word
    c.in_ok-store.field-0 said.writes.geometry said.stored (counted_still (λ stayed. same) counted (ap (λ (p : Parts). p.failures) same))

pub returns-in-Err-clause-counted : goal.returns-in-Err-clause-counted
returns-in-Err-clause-counted g c banks counted stayed =
    let said = c.in_ok-store.ensures in
    let same = c.in_ok-why.ensures.fetches.same in
    stored_counted (g.F.Frames.parts c.early.new.store) (g.F.Frames.parts c.store.new.frames) banks c.args.process c.args.address
    c.args.word
    c.in_ok-store.field-0 said.writes.geometry said.stored (counted_still (λ stayed. same) counted (ap (λ (p : Parts). p.failures) same))

pub returns-in-Some-clause-counted : goal.returns-in-Some-clause-counted
returns-in-Some-clause-counted g c banks counted stayed = counted_still c.early.ensures.fetches.snapshots.same counted stayed

pub returns-in_err-why-clause-counted : goal.returns-in_err-why-clause-counted
returns-in_err-why-clause-counted g c banks counted stayed = counted_still c.early.ensures.fetches.snapshots.same counted stayed

pub returns-in_err-store-clause-counted : goal.returns-in_err-store-clause-counted
returns-in_err-store-clause-counted g c banks counted stayed =
    let same = c.in_ok-why.ensures.fetches.same in
    counted_still (λ stayed. c.in_err-store.ensures.writes.same (stayed ∙ sym (ap (λ (p : Parts). p.failures) same)) ∙ same) counted stayed
