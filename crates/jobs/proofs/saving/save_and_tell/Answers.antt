use Rattle.jobs.proofs.Names.{Err, Ok, Result, RunFault, after_write, refl, Answer, saved_end}
use Rattle.std.proofs.Common.{◌≡◌, ◌∙◌}
use Rattle.jobs.proofs.saving.save_and_tell.Goals as goal

answered : (a : Answer) (wrote : Result (Unit {0}) RunFault) → after_write wrote ≡ saved_end (Ok a) wrote
answered a (Ok u) = refl
answered a (Err e) = refl

pub returns-in-Ok : goal.returns-in-Ok
returns-in-Ok g c = (
  Ok c.in-Ok.answer,
  c.in-Ok.ensures,
  c.print_answer.result,
  c.print_answer.ensures,
  c.of_write.ensures ∙ answered c.in-Ok.answer c.print_answer.result,
)

pub returns-in-Err : goal.returns-in-Err
returns-in-Err g c = (
  Err c.in-Err.refusal,
  c.in-Err.ensures,
  c.write_to.result,
  rw c.refusal_line.ensures.text at c.write_to.ensures,
  c.of_refusal.ensures,
)
