use Rattle.runs.proofs.ConfinedRuns.{runs_confined}
use Rattle.runs.proofs.laws.runs_are_confined.Goals as goal

pub returns : goal.returns
returns g c = runs_confined g.D.Device.disk g.S.ObjectStore.view g.S.Frames.parts
