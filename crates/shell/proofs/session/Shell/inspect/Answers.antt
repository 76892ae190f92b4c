use Rattle.std.proofs.Common.{refl}
use Rattle.shell.proofs.session.Shell.inspect.Goals as goal

pub returns-clause-inspects : goal.returns-clause-inspects
returns-clause-inspects g c = (
  c.device.result.now,
  c.device.ensures.is,
  g.W.Output.written c.inspect-answered.new.writer,
  c.inspect-answered.result,
  c.inspect-answered.ensures.inspects,
  c.pass_on_if.ensures.passes,
  refl,
  refl,
  refl,
)
