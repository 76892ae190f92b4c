use Rattle.std.proofs.Common.{rules}
use Rattle.capability.proofs.FrameLists.{no_process_annex}
use Rattle.capability.proofs.References.{not_root}
use Rattle.capability.proofs.objects.annex.Goals as goal

pub returns-in_default : goal.returns-in_default
returns-in_default g c = search (rules, no_process_annex, not_root)
