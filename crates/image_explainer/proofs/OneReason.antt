-- Bad sectors have exactly one reason.
use Rattle.image_explainer.proofs.Names.{ℕ, refl, subst, Image, BadImage, HasBadDirectory, HasBadHeader, HasHeader, HasNoHeader, HasPlan, IsBadBy, Plan}
use Rattle.image_explainer.proofs.Names.{same_header, same_plan, none_committed, SealedHeader}
use Rattle.std.proofs.Common.{◌≡◌}
use Rattle.layout.specs.declared.bad_image.BadImage.TheVariants as bad
use Rattle.image_explainer.proofs.Marks.{has_mark, not_small}

module _ (size : ℕ) (image : Image) where
  no_both : (p q : Plan) → HasPlan image size p → HasPlan image size q → HasNoHeader image p → HasNoHeader image q
  no_both p q one other none = subst (HasNoHeader image) (same_plan image size p q one other) none

  some_header : (p q : Plan) (h : SealedHeader) → HasPlan image size p → HasPlan image size q → HasHeader image q h → HasNoHeader image p →
      ⊥
  some_header p q h one other header none = none_committed q.version image h (no_both p q one other none) header.committed

  good_header : (p q : Plan) (h : SealedHeader) → HasPlan image size p → HasPlan image size q → HasHeader image q h →
      HasBadHeader image p → ⊥
  good_header p q h one other header broken = subst (HasBadHeader image) (same_plan image size p q one other) broken h header

  same_both : (p q : Plan) (g h : SealedHeader) → HasPlan image size p → HasPlan image size q → HasHeader image p g →
      HasHeader image q h → HasBadDirectory image p g → HasBadDirectory image q h
  same_both p q g h one other first second broken =
      let plans : p ≡ q = same_plan image size p q one other in
      let first_there : HasHeader image q g = subst (λ (x : Plan). HasHeader image x g) plans first in
      let there : HasBadDirectory image q g = subst (λ (x : Plan). HasBadDirectory image x g) plans broken in
      subst (HasBadDirectory image q) (same_header image q g h first_there second) there

  -- two reasons that hold are equal
  pub one_reason : (a b : BadImage) → IsBadBy image size a → IsBadBy image size b → a ≡ b
  one_reason bad.Small bad.Small x y = refl
  one_reason bad.Small bad.NotASuperblock x y = absurd (y.0 x)
  one_reason bad.Small bad.BadGeometry x y = absurd (y.0 x)
  one_reason bad.Small bad.NoHeader x y = absurd (not_small size image y.0 y.1 x)
  one_reason bad.Small bad.BadHeader x y = absurd (not_small size image y.0 y.1 x)
  one_reason bad.Small bad.BadDirectory x y = absurd (not_small size image y.0 y.2 x)
  one_reason bad.Small bad.BadFrame x y = absurd (not_small size image y.0 y.3 x)
  one_reason bad.NotASuperblock bad.Small x y = absurd (x.0 y)
  one_reason bad.NotASuperblock bad.NotASuperblock x y = refl
  one_reason bad.NotASuperblock bad.BadGeometry x y = absurd (x.1 y.1)
  one_reason bad.NotASuperblock bad.NoHeader x y = absurd (x.1 (has_mark size image y.0 y.1))
  one_reason bad.NotASuperblock bad.BadHeader x y = absurd (x.1 (has_mark size image y.0 y.1))
  one_reason bad.NotASuperblock bad.BadDirectory x y = absurd (x.1 (has_mark size image y.0 y.2))
  one_reason bad.NotASuperblock bad.BadFrame x y = absurd (x.1 (has_mark size image y.0 y.3))
  one_reason bad.BadGeometry bad.Small x y = absurd (x.0 y)
  one_reason bad.BadGeometry bad.NotASuperblock x y = absurd (y.1 x.1)
  one_reason bad.BadGeometry bad.BadGeometry x y = refl
  one_reason bad.BadGeometry bad.NoHeader x y = absurd (x.2 y.0 y.1.fits y.1.spelt)
  one_reason bad.BadGeometry bad.BadHeader x y = absurd (x.2 y.0 y.1.fits y.1.spelt)
  one_reason bad.BadGeometry bad.BadDirectory x y = absurd (x.2 y.0 y.2.fits y.2.spelt)
  one_reason bad.BadGeometry bad.BadFrame x y = absurd (x.2 y.0 y.3.fits y.3.spelt)
  one_reason bad.NoHeader bad.Small x y = absurd (not_small size image x.0 x.1 y)
  one_reason bad.NoHeader bad.NotASuperblock x y = absurd (y.1 (has_mark size image x.0 x.1))
  one_reason bad.NoHeader bad.BadGeometry x y = absurd (y.2 x.0 x.1.fits x.1.spelt)
  one_reason bad.NoHeader bad.NoHeader x y = refl
  one_reason bad.NoHeader bad.BadHeader x y = absurd (y.2 (no_both x.0 y.0 x.1 y.1 x.2))
  one_reason bad.NoHeader bad.BadDirectory x y = absurd (some_header x.0 y.0 y.1 x.1 y.2 y.3 x.2)
  one_reason bad.NoHeader bad.BadFrame x y = absurd (some_header x.0 y.0 y.1 x.1 y.3 y.4 x.2)
  one_reason bad.BadHeader bad.Small x y = absurd (not_small size image x.0 x.1 y)
  one_reason bad.BadHeader bad.NotASuperblock x y = absurd (y.1 (has_mark size image x.0 x.1))
  one_reason bad.BadHeader bad.BadGeometry x y = absurd (y.2 x.0 x.1.fits x.1.spelt)
  one_reason bad.BadHeader bad.NoHeader x y = absurd (x.2 (no_both y.0 x.0 y.1 x.1 y.2))
  one_reason bad.BadHeader bad.BadHeader x y = refl
  one_reason bad.BadHeader bad.BadDirectory x y = absurd (good_header x.0 y.0 y.1 x.1 y.2 y.3 x.3)
  one_reason bad.BadHeader bad.BadFrame x y = absurd (good_header x.0 y.0 y.1 x.1 y.3 y.4 x.3)
  one_reason bad.BadDirectory bad.Small x y = absurd (not_small size image x.0 x.2 y)
  one_reason bad.BadDirectory bad.NotASuperblock x y = absurd (y.1 (has_mark size image x.0 x.2))
  one_reason bad.BadDirectory bad.BadGeometry x y = absurd (y.2 x.0 x.2.fits x.2.spelt)
  one_reason bad.BadDirectory bad.NoHeader x y = absurd (some_header y.0 x.0 x.1 y.1 x.2 x.3 y.2)
  one_reason bad.BadDirectory bad.BadHeader x y = absurd (good_header y.0 x.0 x.1 y.1 x.2 x.3 y.3)
  one_reason bad.BadDirectory bad.BadDirectory x y = refl
  one_reason bad.BadDirectory bad.BadFrame x y = absurd (same_both x.0 y.0 x.1 y.1 x.2 y.3 x.3 y.4 x.4 y.2 y.5)
  one_reason bad.BadFrame bad.Small x y = absurd (not_small size image x.0 x.3 y)
  one_reason bad.BadFrame bad.NotASuperblock x y = absurd (y.1 (has_mark size image x.0 x.3))
  one_reason bad.BadFrame bad.BadGeometry x y = absurd (y.2 x.0 x.3.fits x.3.spelt)
  one_reason bad.BadFrame bad.NoHeader x y = absurd (some_header y.0 x.0 x.1 y.1 x.3 x.4 y.2)
  one_reason bad.BadFrame bad.BadHeader x y = absurd (good_header y.0 x.0 x.1 y.1 x.3 x.4 y.3)
  one_reason bad.BadFrame bad.BadDirectory x y = absurd (same_both y.0 x.0 y.1 x.1 y.2 x.3 y.3 x.4 y.4 x.2 x.5)
  one_reason bad.BadFrame bad.BadFrame x y = refl
  one_reason bad.BadCapability b x y = absurd x
  one_reason bad.BadProcess b x y = absurd x
  one_reason bad.BadBank b x y = absurd x
  one_reason a b x y = absurd y
