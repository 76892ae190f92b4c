use Rattle.image_explainer.proofs.Names.{ℕ, List, subst, BreaksMark}
use Rattle.image_explainer.proofs.sectors.superblock.find_mark.Goals as goal

pub returns-clause-found : goal.returns-clause-found
returns-clause-found g c =
    (c.requires, subst (λ (b : List ℕ). BreaksMark b c.mark_part.result) c.in_ok-read_sector.ensures.bytes c.mark_part.ensures)
