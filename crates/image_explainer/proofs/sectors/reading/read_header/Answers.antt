use Rattle.image_explainer.proofs.Places.{committed, refused_by}
use Rattle.image_explainer.proofs.sectors.reading.read_header.Goals as goal

pub returns-clause-refused : goal.returns-clause-refused
returns-clause-refused g c = refused_by c.read_header.result _ (committed _ _ c.requires.header.0 c.requires.header.1)
    (rw c.new.ensures at c.read_header.ensures.refused)
