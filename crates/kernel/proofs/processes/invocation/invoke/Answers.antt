use Rattle.kernel.proofs.Names.{err_from_is_err_and, sym, keepable_roles}
use Rattle.std.proofs.Common.{◌∙◌}
use Rattle.kernel.proofs.Acts.{counted_still}
use Rattle.kernel.proofs.Performing.{fault_serves, invoked_serves, no_process_serves}
use Rattle.kernel.proofs.processes.invocation.invoke.Goals as goal

pub returns-then-not-is_process-clause-serves : goal.returns-then-not-is_process-clause-serves
returns-then-not-is_process-clause-serves g c =
    let p = g.F.Frames.parts c.args.store.now in
    no_process_serves p c.args.age.now c.args.invocation.now c.requires.sound (sym c.is_process.ensures ∙ c.if-not-is_process.true)

pub returns-clause-serves : goal.returns-clause-serves
returns-clause-serves g c =
    invoked_serves g.F.Frames.parts g.F.Frames.ContinuesTo c.args.age.now c.args.store.now c.invoke.new.store c.args.invocation.now
    (sym c.is_process.ensures ∙ c.if-not-is_process.false) c.requires.sound (c.is_worn.ensures.young c.if-is_worn.false) c.in_ok-code.code
    c.in_ok-code.ensures.state c.in_ok-code.ensures.invoked

pub returns-in_err-code-clause-serves : goal.returns-in_err-code-clause-serves
returns-in_err-code-clause-serves g c =
    let p = err_from_is_err_and c.from_residual.result c.from_residual.ensures.1 in
    rw (p.1, p.2) (fault_serves g.F.Frames.parts g.F.Frames.ContinuesTo c.args.age.now c.args.store.now c.invoke.new.store
    c.args.invocation.now
    (sym c.is_process.ensures ∙ c.if-not-is_process.false) c.requires.sound (c.is_worn.ensures.young c.if-is_worn.false) _
    c.in_err-code.ensures.state c.in_err-code.ensures.invoked)

pub returns-then-is_worn-clause-serves : goal.returns-then-is_worn-clause-serves
returns-then-is_worn-clause-serves g c =
    c.refuse_worn.ensures.serves c.args.age.now c.requires.sound (c.is_worn.ensures.worn c.if-is_worn.true)

pub returns-then-is_worn-clause-counted : goal.returns-then-is_worn-clause-counted
returns-then-is_worn-clause-counted g c stayed = counted_still c.refuse_worn.ensures.snapshots.same c.requires.counted stayed

pub is_process-requires : goal.is_process-requires
is_process-requires g c = keepable_roles _ c.args.age.now _ c.requires.sound.keepable
