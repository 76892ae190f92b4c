use Rattle.runs.proofs.Names.{[], Err, None, Ok, Some, refl, err_from_is_err_and}
use Rattle.script.specs.declared.fault.RunFault.TheVariants as fault
use Rattle.runs.proofs.Newlines.{line_ends, no_line_ends}
use Rattle.runs.proofs.ScriptLines.{rest_of}
use Rattle.runs.proofs.Turning.{goes_to_end, goes_to_next, none_read, not_read, not_stopped, stops_in_piece}
use Rattle.runs.proofs.running.take_piece.Goals as goal

pub loop-end-init : goal.loop-end-init
loop-end-init g c = (
  [],
  refl,
  none_read g.D.Device.disk g.S.ObjectStore.view g.S.Frames.parts g.O.Observer.sees g.met.D.Device.only_now c.args.kernel.now
      c.args.observer.now c.args.line.now (g.W.Output.written c.args.writer.now),
)

pub returns-in_err-goes_on-clause-stops : goal.returns-in_err-goes_on-clause-stops
returns-in_err-goes_on-clause-stops g c =
    let ends = line_ends c.loop-end.rest.now (Some c.in-Some.end) c.in-Some.ensures in
    let p = err_from_is_err_and c.from_residual.result c.from_residual.ensures.1 in
    rw (p.1, p.2) (stops_in_piece g.D.Device.disk g.S.ObjectStore.view g.S.Frames.parts g.O.Observer.sees g.met.D.Device.only_now
    c.args.kernel.now
    c.args.observer.now c.args.line.now (g.W.Output.written c.args.writer.now)
    c.args.piece.now c.loop-end.rest.now c.loop-end.kernel c.take_line.new.kernel c.loop-end.observer c.take_line.new.observer
    c.loop-end.line
    c.take_line.new.line
    (g.W.Output.written c.loop-end.writer) (g.W.Output.written c.take_line.new.writer) c.loop-end.invariant c.in-Some.end ends.0 ends.1
    ends.2
    c.in_err-goes_on.ensures.begun
    (Err c.in_err-goes_on.field-0.0) c.in_err-goes_on.field-0.0 refl c.in_err-goes_on.ensures.turn)

pub returns-then-not-goes_on-clause-stops : goal.returns-then-not-goes_on-clause-stops
returns-then-not-goes_on-clause-stops g c =
    let ends = line_ends c.loop-end.rest.now (Some c.in-Some.end) c.in-Some.ensures in
    stops_in_piece g.D.Device.disk g.S.ObjectStore.view g.S.Frames.parts g.O.Observer.sees g.met.D.Device.only_now c.args.kernel.now
    c.args.observer.now
    c.args.line.now (g.W.Output.written c.args.writer.now)
    c.args.piece.now c.loop-end.rest.now c.loop-end.kernel c.take_line.new.kernel c.loop-end.observer c.take_line.new.observer
    c.loop-end.line
    c.take_line.new.line
    (g.W.Output.written c.loop-end.writer) (g.W.Output.written c.take_line.new.writer) c.loop-end.invariant c.in-Some.end ends.0 ends.1
    ends.2
    c.in_ok-goes_on.ensures.begun
    (Ok c.in_ok-goes_on.goes_on) fault.Stopped (rw c.if-not-goes_on.true refl) c.in_ok-goes_on.ensures.turn

pub loop-end-preserved : goal.loop-end-preserved
loop-end-preserved g c =
    let ends = line_ends c.loop-end.rest.now (Some c.in-Some.end) c.in-Some.ensures in
    rw (rest_of c.loop-end.rest.now c.in-Some.end)
    (goes_to_next g.D.Device.disk g.S.ObjectStore.view g.S.Frames.parts g.O.Observer.sees g.met.D.Device.only_now c.args.kernel.now
    c.args.observer.now
    c.args.line.now (g.W.Output.written c.args.writer.now)
    c.args.piece.now c.loop-end.rest.now c.loop-end.kernel c.take_line.new.kernel c.loop-end.observer c.take_line.new.observer
    c.loop-end.line
    c.take_line.new.line
    (g.W.Output.written c.loop-end.writer) (g.W.Output.written c.take_line.new.writer) c.loop-end.invariant c.in-Some.end ends.0 ends.1
    ends.2
    c.in_ok-goes_on.ensures.begun
    (rw c.if-not-goes_on.false at c.in_ok-goes_on.ensures.turn))

pub returns-clause-goes_on : goal.returns-clause-goes_on
returns-clause-goes_on g c =
    goes_to_end g.D.Device.disk g.S.ObjectStore.view g.S.Frames.parts g.O.Observer.sees g.met.D.Device.only_now c.args.kernel.now
    c.args.observer.now
    c.args.line.now (g.W.Output.written c.args.writer.now)
    c.args.piece.now c.loop-end.rest.now c.loop-end.kernel c.loop-end.observer c.loop-end.line c.extend.new.self
    (g.W.Output.written c.loop-end.writer)
    c.loop-end.invariant (no_line_ends c.loop-end.rest.now None c.in_default.ensures) c.extend.ensures

pub returns-in_err-goes_on-clause-fault : goal.returns-in_err-goes_on-clause-fault
returns-in_err-goes_on-clause-fault g c =
    let p = err_from_is_err_and c.from_residual.result c.from_residual.ensures.1 in
    rw (p.1, p.2) (not_read c.in_err-goes_on.field-0.0 c.in_err-goes_on.ensures.fault)

pub returns-in_err-goes_on-clause-unstopped : goal.returns-in_err-goes_on-clause-unstopped
returns-in_err-goes_on-clause-unstopped g c goes_on =
    let p = err_from_is_err_and c.from_residual.result c.from_residual.ensures.1 in
    rw (p.1, p.2) (not_stopped c.in_err-goes_on.field-0.0 c.in_err-goes_on.ensures.fault)
