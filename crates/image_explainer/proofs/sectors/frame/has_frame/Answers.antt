use Rattle.image_explainer.proofs.Names.{ℕ, Image, refl, IsWholeFrame, frame_of, false≢true}
use Rattle.image_explainer.proofs.Places.{before, still}
use Rattle.image_explainer.proofs.sectors.frame.has_frame.Goals as goal

pub returns-in-Ok-clause-found : goal.returns-in-Ok-clause-found
returns-in-Ok-clause-found g c = (
  λ is.
      before (λ (n : ℕ) (i : Image). IsWholeFrame i c.args.plan.now c.args.header c.args.directory.now c.args.number)
      c.read_saved.ensures.reads (frame_of c.in-Ok.field-0 c.read_saved.new.scratch, c.in-Ok.ensures.found),
  λ whole. refl,
)

pub returns-in-Err-Bad-clause-found : goal.returns-in-Err-Bad-clause-found
returns-in-Err-Bad-clause-found g c = (
  λ is. absurd (false≢true is),
  λ whole.
      let there = still (λ (n : ℕ) (i : Image). IsWholeFrame i c.args.plan.now c.args.header c.args.directory.now c.args.number)
      c.read_saved.ensures.reads whole in
      absurd ((rw c.in-Err-Bad.field-0-is at c.in-Err-Bad.ensures.refused).1 there.0 there.1),
)
