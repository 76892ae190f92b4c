use Rattle.runs.proofs.Names.{Err, Ok, err_from_is_err_and, refl}
use Rattle.runs.proofs.OneLine.{line_taken, not_passed, passed}
use Rattle.runs.proofs.running.run_line.Goals as goal

pub returns-in_err-goes_on-clause-runs : goal.returns-in_err-goes_on-clause-runs
returns-in_err-goes_on-clause-runs g c =
    let p = err_from_is_err_and c.from_residual.result c.from_residual.ensures.1 in
    let wrote = g.W.Output.written c.take.new.writer in
    rw (p.1, p.2) (line_taken g.D.Device.disk g.S.ObjectStore.view g.S.Frames.parts g.O.Observer.sees c.args.line.now c.args.kernel.now
    c.take.new.kernel
    c.args.observer.now c.take.new.observer (g.W.Output.written c.args.writer.now) wrote (Err c.in_err-goes_on.field-0.0) wrote
    (Err c.in_err-goes_on.field-0.0)
    (λ on reply is. is)
    (λ h m stands. (
      c.parse_line-says.result,
      c.parse_line-says.ensures.says,
      c.in_err-goes_on.ensures.turn h m c.args.line.now stands refl c.parse_line-says.ensures.says,
    )))

pub returns-in_err-pass_on-clause-runs : goal.returns-in_err-pass_on-clause-runs
returns-in_err-pass_on-clause-runs g c =
    let p = err_from_is_err_and c.from_residual-in_err-pass_on.result c.from_residual-in_err-pass_on.ensures.1 in
    let wrote = g.W.Output.written c.take.new.writer in
    let last = g.W.Output.written c.pass_on.new.self in
    rw (p.1, p.2) (line_taken g.D.Device.disk g.S.ObjectStore.view g.S.Frames.parts g.O.Observer.sees c.args.line.now c.args.kernel.now
    c.take.new.kernel
    c.args.observer.now c.take.new.observer (g.W.Output.written c.args.writer.now) wrote (Ok c.in_ok-goes_on.goes_on) last
    (Err c.in_err-pass_on.field-0.0)
    (λ on reply is. not_passed (g.W.Output.written c.args.writer.now) wrote last c.in_ok-goes_on.goes_on on reply c.in_err-pass_on.field-0.0
    c.in_err-pass_on.ensures.bytes.0 c.in_err-pass_on.ensures.bytes.1 is)
    (λ h m stands. (
      c.parse_line-says.result,
      c.parse_line-says.ensures.says,
      c.in_ok-goes_on.ensures.turn h m c.args.line.now stands refl c.parse_line-says.ensures.says,
    )))

pub returns-clause-runs : goal.returns-clause-runs
returns-clause-runs g c =
    let wrote = g.W.Output.written c.take.new.writer in
    let last = g.W.Output.written c.pass_on.new.self in
    line_taken g.D.Device.disk g.S.ObjectStore.view g.S.Frames.parts g.O.Observer.sees c.args.line.now c.args.kernel.now c.take.new.kernel
    c.args.observer.now c.take.new.observer (g.W.Output.written c.args.writer.now) wrote (Ok c.in_ok-goes_on.goes_on) last
    (Ok c.in_ok-goes_on.goes_on)
    (λ on reply is. passed (g.W.Output.written c.args.writer.now) wrote last c.in_ok-goes_on.goes_on on reply c.in_ok-pass_on.ensures.bytes
    is)
    (λ h m stands. (
      c.parse_line-says.result,
      c.parse_line-says.ensures.says,
      c.in_ok-goes_on.ensures.turn h m c.args.line.now stands refl c.parse_line-says.ensures.says,
    ))
