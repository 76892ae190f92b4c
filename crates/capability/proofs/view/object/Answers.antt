use Rattle.std.proofs.Common.{rules}
use Rattle.capability.proofs.FrameLists.{object_there}
use Rattle.capability.proofs.view.object.Goals as goal

pub returns : goal.returns
returns g c = search (rules, object_there)
