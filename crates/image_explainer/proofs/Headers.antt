-- Why no header of versions 1 and 2 is committed, and what is wrong with the committed one.
use Rattle.image_explainer.proofs.Names.{ℕ, false, List, Some, refl, sym, ap, Image, CheckpointHeader, IsHeader, header_bytes, HasBadHeader, committed_slot}
use Rattle.image_explainer.proofs.Names.{option_at, Plan, row, plain, plain_header, plain_words}
use Rattle.std.proofs.Common.{◌≡◌, ◌+◌, ◌*◌, ◌∙◌}

module _ (size : ℕ) (image : Image) (p : Plan) (is : (row p.version).sealed ≡ false) (slot : ℕ) (wins : committed_slot image ≡ Some slot)
    (bad : HasBadHeader image p) where
  -- the bytes of the committed slot encode no header
  pub refused : (bytes : List ℕ) → bytes ≡ image (1 + 2 * slot) → (h : CheckpointHeader) → IsHeader 0 p.geometry.log h →
      bytes ≡ header_bytes h → ⊥
  refused bytes there h fits spelt =
      bad (plain h)
      (plain_header image p is (plain h) (record { root = refl; directory = refl }) (plain_words h fits)
      (record { fits = fits; spelt = ap (option_at image) wins ∙ ap (λ (b : List ℕ). Some b) (sym there ∙ spelt) }))
