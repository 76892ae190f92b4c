use Rattle.image_drawer.proofs.Names.{append_assoc}
use Rattle.image_drawer.specs.Graph.{rectangle_start}
use Rattle.image_drawer.proofs.owner.start_rectangle.Goals as goal

pub returns-clause-text : goal.returns-clause-text
unfolding rectangle_start
returns-clause-text c =
    rw (c.push.ensures, c.number.ensures.text, c.word.ensures, c.push_number.ensures.text, c.new-line.ensures) (simp append_assoc)
