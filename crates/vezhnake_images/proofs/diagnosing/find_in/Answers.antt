use Rattle.vezhnake_images.proofs.Names.{subst, Explains, image_disk}
use Rattle.vezhnake_images.proofs.Texts.{found_in}
use Rattle.vezhnake_images.proofs.diagnosing.find_in.Goals as goal

pub returns-in-Ok-found-clause-ok : goal.returns-in-Ok-found-clause-ok
returns-in-Ok-found-clause-ok c = found_in c.args.image.now c.in-Ok.device c.explain-found.result.1 c.in-Ok-found.found c.in-Ok.ensures.ok
    (subst (λ r. Explains image_disk c.in-Ok.device c.explain-found.result.1 r) c.in-Ok-found.is c.explain-found.ensures)
