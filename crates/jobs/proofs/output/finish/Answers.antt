use Rattle.std.proofs.Common.{refl, Ok, Err}
use Rattle.jobs.specs.declared.fault.Fault.TheVariants as fault
use Rattle.jobs.proofs.output.finish.Goals as goal

pub returns-in-Ok : goal.returns-in-Ok
returns-in-Ok g c = (Ok tt, Ok tt, c.in-Ok.ensures.bytes, (refl, refl, c.in-Ok.ensures.none_waits), refl)

pub returns-then-before-eq0 : goal.returns-then-before-eq0
returns-then-before-eq0 g c = (
  Err c.in-Err.field-0,
  Err fault.CannotWriteOutput,
  c.in-Err.ensures.bytes,
  (c.if-before-eq0.true, c.status.ensures.status),
  c.status.ensures.reported,
)

pub returns-else-before-eq0 : goal.returns-else-before-eq0
returns-else-before-eq0 g c = (Err c.in-Err.field-0, Ok tt, c.in-Err.ensures.bytes, (refl, λ zero. c.if-before-eq0.false zero), refl)
