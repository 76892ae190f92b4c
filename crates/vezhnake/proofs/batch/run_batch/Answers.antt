use Rattle.std.proofs.Common.{inr}
use Rattle.vezhnake.proofs.batch.run_batch.Goals as goal

pub returns-in-Ok : goal.returns-in-Ok
returns-in-Ok c = inr (c.in-Ok.session, c.run_script-status.new.session, c.in-Ok.ensures.opened, c.run_script-status.ensures)
