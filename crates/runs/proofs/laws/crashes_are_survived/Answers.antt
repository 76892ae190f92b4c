use Rattle.runs.proofs.Surviving.{crashes_survived}
use Rattle.runs.proofs.laws.crashes_are_survived.Goals as goal

pub returns : goal.returns
returns g c = crashes_survived g.D.Device.disk g.S.ObjectStore.view g.S.Frames.parts g.met.D.Device.only_now
