use Rattle.std.proofs.Common.{append_assoc}
use Rattle.jobs.proofs.checking.checked_line.Goals as goal

pub returns-clause-text : goal.returns-clause-text
returns-clause-text c = rw (c.named-2.ensures.text, c.named.ensures.text, c.numbered-line.ensures.text) (simp append_assoc)
