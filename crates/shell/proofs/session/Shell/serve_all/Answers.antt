use Rattle.std.proofs.Common.{inl}
use Rattle.std.proofs.lemmas.Result.{err_from_is_err_and}
use Rattle.shell.specs.Lines.{ahead_of}
use Rattle.shell.specs.Sessions.{session_at}
use Rattle.shell.proofs.Sessions.{not_begun}
use Rattle.shell.proofs.session.Shell.serve_all.Goals as goal

pub returns-in_err-pass_on-clause-served : goal.returns-in_err-pass_on-clause-served
returns-in_err-pass_on-clause-served g c =
    let p = err_from_is_err_and c.from_residual.result c.from_residual.ensures.1 in
    rw (p.1, p.2) (not_begun g.D.Device.disk g.S.ObjectStore.view g.S.Frames.parts (g.Q.Inspector.inspects c.args.inspector.now)
    c.args.self.now.topics.now c.args.self.now.is_prompting
    (ahead_of g.R.RawReader.rest c.args.lines.now) (session_at g.V.Output.written c.args.self.now c.args.kernel.now
    (g.W.Output.written c.args.writer.now))
    (g.W.Output.written c.pass_on.new.self) c.in_err-pass_on.field-0.0 c.in_err-pass_on.ensures.bytes.0 c.in_err-pass_on.ensures.bytes.1)

pub returns-clause-served : goal.returns-clause-served
returns-clause-served g c = inl (g.W.Output.written c.pass_on.new.self, c.in_ok-pass_on.ensures.bytes, c.serve_lines.ensures.served)
