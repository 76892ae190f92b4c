use Rattle.std.proofs.Common.{rules}
use Rattle.capability.proofs.FrameLists.{no_word_there}
use Rattle.capability.proofs.References.{not_page}
use Rattle.capability.proofs.objects.word.Goals as goal

pub returns-in_default : goal.returns-in_default
returns-in_default g c = search (rules, no_word_there, not_page)
