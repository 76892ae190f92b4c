use Rattle.runs.proofs.Names.{Err, Ok, refl, err_from_is_err_and}
use Rattle.script.specs.declared.fault.RunFault.TheVariants as fault
use Rattle.runs.proofs.Turning.{ended, not_read, not_stopped, rest_ends, rest_stops}
use Rattle.runs.proofs.running.take_rest.Goals as goal

pub returns-then-is_empty-clause-ends : goal.returns-then-is_empty-clause-ends
returns-then-is_empty-clause-ends g c h m start first text output so_far =
    ended g.D.Device.disk g.S.ObjectStore.view g.S.Frames.parts g.O.Observer.sees g.met.D.Device.only_now h m start c.args.kernel.now first
    c.args.observer.now
    text c.args.line.now output (g.W.Output.written c.args.writer.now) so_far
    ((c.is_empty.ensures so_far.rest so_far.held).0 c.if-is_empty.true)

pub returns-in_err-goes_on-clause-stops : goal.returns-in_err-goes_on-clause-stops
returns-in_err-goes_on-clause-stops g c =
    let p = err_from_is_err_and c.from_residual.result c.from_residual.ensures.1 in
    rw (p.1, p.2) (rest_stops g.D.Device.disk g.S.ObjectStore.view g.S.Frames.parts g.O.Observer.sees g.met.D.Device.only_now
    c.args.kernel.now
    c.take_held.new.kernel c.args.observer.now c.take_held.new.observer c.args.line.now c.take_held.new.line
    (g.W.Output.written c.args.writer.now) (g.W.Output.written c.take_held.new.writer) c.in_err-goes_on.ensures.begun c.is_empty.result
    c.is_empty.ensures
    c.if-is_empty.false
    (Err c.in_err-goes_on.field-0.0) c.in_err-goes_on.ensures.turn c.in_err-goes_on.field-0.0 refl)

pub returns-then-not-goes_on-clause-stops : goal.returns-then-not-goes_on-clause-stops
returns-then-not-goes_on-clause-stops g c =
    rest_stops g.D.Device.disk g.S.ObjectStore.view g.S.Frames.parts g.O.Observer.sees g.met.D.Device.only_now c.args.kernel.now
    c.take_held.new.kernel
    c.args.observer.now c.take_held.new.observer c.args.line.now c.take_held.new.line
    (g.W.Output.written c.args.writer.now) (g.W.Output.written c.take_held.new.writer) c.in_ok-goes_on.ensures.begun c.is_empty.result
    c.is_empty.ensures
    c.if-is_empty.false
    (Ok c.in_ok-goes_on.goes_on) c.in_ok-goes_on.ensures.turn fault.Stopped (rw c.if-not-goes_on.true refl)

pub returns-clause-ends : goal.returns-clause-ends
returns-clause-ends g c =
    rest_ends g.D.Device.disk g.S.ObjectStore.view g.S.Frames.parts g.O.Observer.sees g.met.D.Device.only_now c.args.kernel.now
    c.take_held.new.kernel
    c.args.observer.now c.take_held.new.observer c.args.line.now c.take_held.new.line
    (g.W.Output.written c.args.writer.now) (g.W.Output.written c.take_held.new.writer) c.in_ok-goes_on.ensures.begun c.is_empty.result
    c.is_empty.ensures
    c.if-is_empty.false
    (Ok c.in_ok-goes_on.goes_on) c.in_ok-goes_on.ensures.turn (rw c.if-not-goes_on.false refl)

pub returns-in_err-goes_on-clause-fault : goal.returns-in_err-goes_on-clause-fault
returns-in_err-goes_on-clause-fault g c =
    let p = err_from_is_err_and c.from_residual.result c.from_residual.ensures.1 in
    rw (p.1, p.2) (not_read c.in_err-goes_on.field-0.0 c.in_err-goes_on.ensures.fault)

pub returns-in_err-goes_on-clause-unstopped : goal.returns-in_err-goes_on-clause-unstopped
returns-in_err-goes_on-clause-unstopped g c goes_on =
    let p = err_from_is_err_and c.from_residual.result c.from_residual.ensures.1 in
    rw (p.1, p.2) (not_stopped c.in_err-goes_on.field-0.0 c.in_err-goes_on.ensures.fault)
