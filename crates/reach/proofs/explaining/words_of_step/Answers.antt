use Rattle.std.proofs.Common.{append_assoc}
use Rattle.reach.proofs.explaining.words_of_step.Goals as goal

pub returns-in-Annex-clause-text : goal.returns-in-Annex-clause-text
returns-in-Annex-clause-text c = rw (c.in-Annex.is, c.named.ensures.text, c.numbered-line.ensures.text) (simp append_assoc)
