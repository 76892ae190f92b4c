use Rattle.image_explainer.proofs.Places.{named, refused_by}
use Rattle.image_explainer.proofs.sectors.reading.read_directory.Goals as goal

pub returns-clause-refused : goal.returns-clause-refused
returns-clause-refused g c =
    let there = c.requires.there in
    refused_by c.read_committed.result _ (named _ _ there.0 there.2 there.1 there.3) (rw c.new.ensures at c.read_committed.ensures.refused)
