use Rattle.shell.proofs.SessionRuns.{sessions_run}
use Rattle.shell.proofs.laws.sessions_are_runs.Goals as goal

pub returns : goal.returns
returns g c q = sessions_run g.D.Device.disk g.S.ObjectStore.view g.S.Frames.parts (g.Q.Inspector.inspects q)
