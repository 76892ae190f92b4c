use Rattle.std.proofs.Common.{append_assoc}
use Rattle.image_drawer.proofs.part.begin_node.Goals as goal

pub returns-clause-text : goal.returns-clause-text
returns-clause-text c = rw (c.number.ensures.text, c.word.ensures, c.begin-line.ensures.text) (simp append_assoc)
