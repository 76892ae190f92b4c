use Rattle.image_explainer.proofs.Places.{planned, refused_by}
use Rattle.image_explainer.proofs.sectors.reading.read_plan.Goals as goal

pub returns-clause-refused : goal.returns-clause-refused
returns-clause-refused g c = refused_by c.read_superblock.result _ (planned _ _ c.requires.0 c.requires.1) c.read_superblock.ensures.refused
