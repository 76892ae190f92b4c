-- A superblock begins with its mark, and an image with one isn't too small.
use Rattle.image_explainer.proofs.Names.{nat_tests, ℕ, sym, subst, arith, Image, HasPlan, IsTooSmall, HasMark, Plan, total_reported, marked}

module _ (size : ℕ) (image : Image) (p : Plan) (plan : HasPlan image size p) where
  pub has_mark : HasMark (image 0)
  has_mark = subst HasMark (sym plan.spelt) (marked p plan.fits.few)

  pub not_small : IsTooSmall image size → ⊥
  not_small small = grind (arith, nat_tests, total_reported)
