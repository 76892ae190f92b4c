use Rattle.runs.proofs.Names.{Ok, refl, rules, subst, take, err_from_is_err_and, Piece, ReadsPiece}
use Rattle.std.proofs.Common.{◌∙◌}
use Rattle.runs.proofs.Turning.{end_passed_on, none_was_read, not_passed_on, nothing_read, passed_on, piece_on, piece_stops, rest_stops_run}
use Rattle.runs.proofs.running.run_turns.Goals as goal

pub loop-reader-init : goal.loop-reader-init
loop-reader-init g c = record {
  sized = refl;
  read = nothing_read g.D.Device.disk g.S.ObjectStore.view g.S.Frames.parts g.O.Observer.sees g.met.D.Device.only_now c.args.kernel.now
      c.args.observer.now
      c.new-line.result
      (g.R.Script.unread c.args.reader.now) (g.W.Output.written c.args.writer.now) c.new-line.ensures;
  none_failed = refl;
}

pub returns-in_err-take_piece-in-Bytes-clause-watched : goal.returns-in_err-take_piece-in-Bytes-clause-watched
returns-in_err-take_piece-in-Bytes-clause-watched g c =
    let p = err_from_is_err_and c.from_residual-in_err-take_piece-in-Bytes.result c.from_residual-in_err-take_piece-in-Bytes.ensures.1 in
    rw (p.1, p.2) (piece_stops g.D.Device.disk g.S.ObjectStore.view g.S.Frames.parts g.O.Observer.sees g.met.D.Device.only_now
    c.args.kernel.now
    c.loop-reader.kernel c.args.observer.now c.loop-reader.observer c.loop-reader.line
    (g.R.Script.unread c.args.reader.now) (g.R.Script.unread c.loop-reader.reader) (g.R.Script.unread c.read_piece.new.self)
    (g.W.Output.written c.args.writer.now) (g.W.Output.written c.pass_on.new.self)
    (passed_on g.D.Device.disk g.S.ObjectStore.view g.S.Frames.parts g.O.Observer.sees g.met.D.Device.only_now c.args.kernel.now
    c.loop-reader.kernel
    c.args.observer.now c.loop-reader.observer c.loop-reader.line (g.R.Script.unread c.args.reader.now)
    (g.R.Script.unread c.loop-reader.reader)
    (g.R.Script.unread c.loop-reader.reader)
    (g.W.Output.written c.args.writer.now) (g.W.Output.written c.loop-reader.writer) c.loop-reader.invariant.read
    (g.W.Output.written c.pass_on.new.self)
    c.in_ok-pass_on.ensures.bytes)
    (take c.in-Bytes.count c.read_piece.new.piece) c.take_piece.new.kernel c.take_piece.new.observer
    (g.W.Output.written c.take_piece.new.writer)
    (subst (λ (p : Piece). ReadsPiece (g.R.Script.unread c.loop-reader.reader) (g.R.Script.unread c.read_piece.new.self)
    c.read_piece.new.piece (Ok p))
    c.in-Bytes.is c.in_ok-count.ensures.bytes).1
    c.in_err-take_piece-in-Bytes.field-0.0 c.in_err-take_piece-in-Bytes.ensures.stops)

pub returns-in_err-take_rest-in-End-clause-watched : goal.returns-in_err-take_rest-in-End-clause-watched
returns-in_err-take_rest-in-End-clause-watched g c =
    let read = (subst (λ (p : Piece). ReadsPiece (g.R.Script.unread c.loop-reader.reader) (g.R.Script.unread c.read_piece.new.self)
    c.read_piece.new.piece
    (Ok p)) c.in-End.is c.in_ok-count.ensures.bytes) in
    let p = err_from_is_err_and c.from_residual-in_err-take_rest-in-End.result c.from_residual-in_err-take_rest-in-End.ensures.1 in
    rw (p.1, p.2) (rest_stops_run g.D.Device.disk g.S.ObjectStore.view g.S.Frames.parts g.O.Observer.sees g.met.D.Device.only_now
    c.args.kernel.now
    c.loop-reader.kernel c.args.observer.now c.loop-reader.observer c.loop-reader.line
    (g.R.Script.unread c.args.reader.now) (g.R.Script.unread c.loop-reader.reader) (g.R.Script.unread c.read_piece.new.self)
    (g.W.Output.written c.args.writer.now) (g.W.Output.written c.pass_on.new.self)
    (passed_on g.D.Device.disk g.S.ObjectStore.view g.S.Frames.parts g.O.Observer.sees g.met.D.Device.only_now c.args.kernel.now
    c.loop-reader.kernel
    c.args.observer.now c.loop-reader.observer c.loop-reader.line (g.R.Script.unread c.args.reader.now)
    (g.R.Script.unread c.loop-reader.reader)
    (g.R.Script.unread c.loop-reader.reader)
    (g.W.Output.written c.args.writer.now) (g.W.Output.written c.loop-reader.writer) c.loop-reader.invariant.read
    (g.W.Output.written c.pass_on.new.self)
    c.in_ok-pass_on.ensures.bytes)
    c.take_rest.new.kernel c.take_rest.new.observer (g.W.Output.written c.take_rest.new.writer) read.0 read.1
    c.in_err-take_rest-in-End.field-0.0
    c.in_err-take_rest-in-End.ensures.stops)

pub returns-in-End-clause-watched : goal.returns-in-End-clause-watched
returns-in-End-clause-watched g c =
    let read = (subst (λ (p : Piece). ReadsPiece (g.R.Script.unread c.loop-reader.reader) (g.R.Script.unread c.read_piece.new.self)
    c.read_piece.new.piece
    (Ok p)) c.in-End.is c.in_ok-count.ensures.bytes) in
    end_passed_on g.D.Device.disk g.S.ObjectStore.view g.S.Frames.parts g.O.Observer.sees g.met.D.Device.only_now c.args.kernel.now
    c.loop-reader.kernel
    c.args.observer.now c.loop-reader.observer c.loop-reader.line
    (g.R.Script.unread c.args.reader.now) (g.R.Script.unread c.loop-reader.reader) (g.R.Script.unread c.read_piece.new.self)
    (g.W.Output.written c.args.writer.now) (g.W.Output.written c.pass_on.new.self)
    (passed_on g.D.Device.disk g.S.ObjectStore.view g.S.Frames.parts g.O.Observer.sees g.met.D.Device.only_now c.args.kernel.now
    c.loop-reader.kernel
    c.args.observer.now c.loop-reader.observer c.loop-reader.line (g.R.Script.unread c.args.reader.now)
    (g.R.Script.unread c.loop-reader.reader)
    (g.R.Script.unread c.loop-reader.reader)
    (g.W.Output.written c.args.writer.now) (g.W.Output.written c.loop-reader.writer) c.loop-reader.invariant.read
    (g.W.Output.written c.pass_on.new.self)
    c.in_ok-pass_on.ensures.bytes)
    c.take_rest.new.kernel c.take_rest.new.observer (g.W.Output.written c.take_rest.new.writer) read.0 read.1
    (g.W.Output.written c.pass_on-in-End.new.self)
    c.in_ok-take_rest-in-End.ensures.ends c.pass_on-in-End.result c.pass_on-in-End.ensures.bytes

pub loop-reader-preserved-in-Continue-branch-4 : goal.loop-reader-preserved-in-Continue-branch-4
loop-reader-preserved-in-Continue-branch-4 g c = record {
  sized = c.read_piece.ensures.size ∙ c.loop-reader.invariant.sized;
  read = piece_on g.D.Device.disk g.S.ObjectStore.view g.S.Frames.parts g.O.Observer.sees g.met.D.Device.only_now c.args.kernel.now
      c.loop-reader.kernel
      c.args.observer.now c.loop-reader.observer c.loop-reader.line
      (g.R.Script.unread c.args.reader.now) (g.R.Script.unread c.loop-reader.reader) (g.R.Script.unread c.read_piece.new.self)
      (g.W.Output.written c.args.writer.now) (g.W.Output.written c.pass_on.new.self)
      (passed_on g.D.Device.disk g.S.ObjectStore.view g.S.Frames.parts g.O.Observer.sees g.met.D.Device.only_now c.args.kernel.now
      c.loop-reader.kernel
      c.args.observer.now c.loop-reader.observer c.loop-reader.line (g.R.Script.unread c.args.reader.now)
      (g.R.Script.unread c.loop-reader.reader)
      (g.R.Script.unread c.loop-reader.reader)
      (g.W.Output.written c.args.writer.now) (g.W.Output.written c.loop-reader.writer) c.loop-reader.invariant.read
      (g.W.Output.written c.pass_on.new.self)
      c.in_ok-pass_on.ensures.bytes)
      (take c.in-Bytes.count c.read_piece.new.piece) c.take_piece.new.kernel c.take_piece.new.observer
      (g.W.Output.written c.take_piece.new.writer)
      (subst (λ (p : Piece). ReadsPiece (g.R.Script.unread c.loop-reader.reader) (g.R.Script.unread c.read_piece.new.self)
      c.read_piece.new.piece (Ok p))
      c.in-Bytes.is c.in_ok-count.ensures.bytes).1
      c.take_piece.new.line c.in_ok-take_piece-in-Bytes.ensures.goes_on;
  none_failed = search rules;
}

pub returns-in_err-pass_on-clause-watched : goal.returns-in_err-pass_on-clause-watched
returns-in_err-pass_on-clause-watched g c =
    let p = err_from_is_err_and c.from_residual.result c.from_residual.ensures.1 in
    rw (p.1, p.2) (not_passed_on g.D.Device.disk g.S.ObjectStore.view g.S.Frames.parts g.O.Observer.sees g.met.D.Device.only_now
    c.args.kernel.now
    c.loop-reader.kernel c.args.observer.now c.loop-reader.observer c.loop-reader.line (g.R.Script.unread c.args.reader.now)
    (g.R.Script.unread c.loop-reader.reader) (g.R.Script.unread c.loop-reader.reader) (g.W.Output.written c.args.writer.now)
    (g.W.Output.written c.loop-reader.writer) c.loop-reader.invariant.read (g.W.Output.written c.pass_on.new.self)
    c.in_err-pass_on.field-0.0
    c.in_err-pass_on.ensures.bytes)

pub returns-in_err-count-clause-watched : goal.returns-in_err-count-clause-watched
returns-in_err-count-clause-watched g c =
    let p = err_from_is_err_and c.from_residual-in_err-count.result c.from_residual-in_err-count.ensures.1 in
    rw (p.1, p.2) (none_was_read g.D.Device.disk g.S.ObjectStore.view g.S.Frames.parts g.O.Observer.sees g.met.D.Device.only_now
    c.args.kernel.now
    c.loop-reader.kernel c.args.observer.now c.loop-reader.observer c.loop-reader.line (g.R.Script.unread c.args.reader.now)
    (g.R.Script.unread c.loop-reader.reader) (g.R.Script.unread c.read_piece.new.self) (g.W.Output.written c.args.writer.now)
    (g.W.Output.written c.pass_on.new.self)
    (passed_on g.D.Device.disk g.S.ObjectStore.view g.S.Frames.parts g.O.Observer.sees g.met.D.Device.only_now c.args.kernel.now
    c.loop-reader.kernel
    c.args.observer.now c.loop-reader.observer c.loop-reader.line (g.R.Script.unread c.args.reader.now)
    (g.R.Script.unread c.loop-reader.reader)
    (g.R.Script.unread c.loop-reader.reader)
    (g.W.Output.written c.args.writer.now) (g.W.Output.written c.loop-reader.writer) c.loop-reader.invariant.read
    (g.W.Output.written c.pass_on.new.self)
    c.in_ok-pass_on.ensures.bytes)
    c.read_piece.new.piece c.in_err-count.field-0.0 c.in_err-count.ensures.bytes)
