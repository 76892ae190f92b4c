use Rattle.runs.proofs.Surviving.{in_runs_survived}
use Rattle.runs.proofs.laws.crashes_in_runs_are_survived.Goals as goal

pub returns : goal.returns
returns g c = in_runs_survived g.D.Device.disk g.S.ObjectStore.view g.S.Frames.parts g.met.D.Device.only_now
