use Rattle.std.proofs.Common.{rules}
use Rattle.capability.proofs.FrameLists.{no_root_there}
use Rattle.capability.proofs.References.{not_root}
use Rattle.capability.proofs.roots.root.Goals as goal

pub unreachable-requires : goal.unreachable-requires
unreachable-requires g c = search (rules, no_root_there, not_root)
