use Rattle.runs.proofs.Names.{Err, Ok, option_map, refl, sym, subst, err_from_is_err_and, IsTextOf}
use Rattle.runs.proofs.Turning.{answered, is_bad, skipped}
use Rattle.runs.proofs.running.take.Goals as goal

pub returns-in-Skip-clause-turn : goal.returns-in-Skip-clause-turn
returns-in-Skip-clause-turn g c h m whole stands text says =
    skipped g.D.Device.disk g.S.ObjectStore.view g.S.Frames.parts g.O.Observer.sees g.met.D.Device.only_now h m whole c.args.line.now
    c.args.kernel.now
    c.args.observer.now c.skip.new.self c.skip.result
    (g.W.Output.written c.args.writer.now) c.in-Skip.is stands (c.skip.ensures.seen h)

pub returns-in_ok-print_bad_line-in-Bad-clause-turn : goal.returns-in_ok-print_bad_line-in-Bad-clause-turn
returns-in_ok-print_bad_line-in-Bad-clause-turn g c h m whole stands text says =
    is_bad g.D.Device.disk g.S.ObjectStore.view g.S.Frames.parts g.O.Observer.sees g.met.D.Device.only_now h m whole c.args.line.now
    c.args.kernel.now
    c.args.observer.now c.bad-goes_on.new.self c.bad-goes_on.result
    (g.W.Output.written c.args.writer.now) (g.W.Output.written c.print_bad_line.new.writer) (Ok c.bad-goes_on.result) c.in-Bad.is stands
    (λ t at reply. c.bad-goes_on.ensures.seen h t (subst (IsTextOf (option_map (λ x. x.now) c.args.text)) (sym at) text) reply)
    (refl, c.in_ok-print_bad_line-in-Bad.ensures)

pub returns-in_err-print_bad_line-in-Bad-clause-turn : goal.returns-in_err-print_bad_line-in-Bad-clause-turn
returns-in_err-print_bad_line-in-Bad-clause-turn g c h m whole stands text says =
    let p = err_from_is_err_and c.from_residual.result c.from_residual.ensures.1 in
    rw (p.1, p.2) (is_bad g.D.Device.disk g.S.ObjectStore.view g.S.Frames.parts g.O.Observer.sees g.met.D.Device.only_now h m whole
    c.args.line.now
    c.args.kernel.now c.args.observer.now c.bad-goes_on.new.self c.bad-goes_on.result
    (g.W.Output.written c.args.writer.now) (g.W.Output.written c.print_bad_line.new.writer) (Err c.in_err-print_bad_line-in-Bad.field-0.0)
    c.in-Bad.is stands
    (λ t at reply. c.bad-goes_on.ensures.seen h t (subst (IsTextOf (option_map (λ x. x.now) c.args.text)) (sym at) text) reply)
    c.in_err-print_bad_line-in-Bad.ensures)

pub returns-in_ok-print_answer-in-Command-clause-turn : goal.returns-in_ok-print_answer-in-Command-clause-turn
returns-in_ok-print_answer-in-Command-clause-turn g c h m whole stands text says =
    answered g.D.Device.disk g.S.ObjectStore.view g.S.Frames.parts g.O.Observer.sees g.met.D.Device.only_now h m whole c.args.line.now
    c.in-Command.command
    c.step_with_code-served.result.answer c.step_with_code-served.result.code
    c.args.kernel.now c.step_with_code-served.new.self c.args.observer.now c.answer-goes_on.new.self c.answer-goes_on.result
    (g.W.Output.written c.args.writer.now) (g.W.Output.written c.print_answer.new.writer) (Ok c.answer-goes_on.result) c.in-Command.is says
    stands
    c.step_with_code-served.ensures.serves c.step_with_code-served.ensures.cause (c.step_with_code-served.ensures.code h m stands)
    (c.answer-goes_on.ensures.seen h) (refl, c.in_ok-print_answer-in-Command.ensures)

pub returns-in_err-print_answer-in-Command-clause-turn : goal.returns-in_err-print_answer-in-Command-clause-turn
returns-in_err-print_answer-in-Command-clause-turn g c h m whole stands text says =
    let p = err_from_is_err_and c.from_residual-in_err-print_answer-in-Command.result
    c.from_residual-in_err-print_answer-in-Command.ensures.1 in
    rw (p.1, p.2) (answered g.D.Device.disk g.S.ObjectStore.view g.S.Frames.parts g.O.Observer.sees g.met.D.Device.only_now h m whole
    c.args.line.now
    c.in-Command.command c.step_with_code-served.result.answer c.step_with_code-served.result.code
    c.args.kernel.now c.step_with_code-served.new.self c.args.observer.now c.answer-goes_on.new.self c.answer-goes_on.result
    (g.W.Output.written c.args.writer.now) (g.W.Output.written c.print_answer.new.writer) (Err c.in_err-print_answer-in-Command.field-0.0)
    c.in-Command.is says
    stands
    c.step_with_code-served.ensures.serves c.step_with_code-served.ensures.cause (c.step_with_code-served.ensures.code h m stands)
    (c.answer-goes_on.ensures.seen h) c.in_err-print_answer-in-Command.ensures)

pub returns-in_err-print_bad_line-in-Bad-clause-fault : goal.returns-in_err-print_bad_line-in-Bad-clause-fault
returns-in_err-print_bad_line-in-Bad-clause-fault g c =
    let p = err_from_is_err_and c.from_residual.result c.from_residual.ensures.1 in rw (p.1, p.2) c.in_err-print_bad_line-in-Bad.ensures.0

pub returns-in_err-print_answer-in-Command-clause-fault : goal.returns-in_err-print_answer-in-Command-clause-fault
returns-in_err-print_answer-in-Command-clause-fault g c =
    let p = err_from_is_err_and c.from_residual-in_err-print_answer-in-Command.result
    c.from_residual-in_err-print_answer-in-Command.ensures.1 in
    rw (p.1, p.2) c.in_err-print_answer-in-Command.ensures.0
