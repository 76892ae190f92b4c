use Rattle.std.proofs.Common.{rules}
use Rattle.capability.proofs.FrameLists.{no_annex_there}
use Rattle.capability.proofs.References.{not_annex}
use Rattle.capability.proofs.view.registers.Goals as goal

pub unreachable-requires : goal.unreachable-requires
unreachable-requires g c = search (rules, no_annex_there, not_annex)
