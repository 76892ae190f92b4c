-- The home ranges of an image of other sizes.
use Rattle.image_describer.proofs.Names.{inl, inr, ℕ, Bool, true, false, List, [], map, refl, arith, nat_tests, HomeRange, Cover, IsGeometry, IsOfOneKind}
use Rattle.image_describer.proofs.Names.{NumberRange, MayBeLaid, placed, Geometry, whole_ranges, grown_ranges}
use Rattle.std.proofs.Common.{◌≡◌, ◌+◌, if◌then◌else◌, ◌∷◌}
use Rattle.std.specs.Prelude.{◌==◌, ◌&&◌}

module _ (g h : Geometry) (nodes : g.nodes ≡ h.nodes) (pages : g.pages ≡ h.pages) where
  kind_same : (r : HomeRange) → IsOfOneKind g r → IsOfOneKind h r
  kind_same r is = elim is [ inl below ↦ inl (omega (arith, below, nodes)) | inr above ↦ inr (omega (arith, above, nodes)) ]

  cover_same : (n : ℕ) (rs : List HomeRange) → Cover g n rs → Cover h n rs
  cover_same n [] cover = omega (arith, cover, nodes, pages)
  cover_same n (r ∷ rs) cover = ((cover.0.0, cover.0.1, kind_same r cover.0.2), cover_same (n + r.count) rs cover.1)

whole_laid : (g : Geometry) → IsGeometry g → MayBeLaid g (whole_ranges g)
whole_laid g is = grind (arith, nat_tests)

both : (a b c d : ℕ) → (a == b && c == d) ≡ true → (a ≡ b) × (c ≡ d)
both a b c d is = (grind (arith, nat_tests), grind (arith, nat_tests))

either_laid : (old new : Geometry) (rs : List NumberRange) (b : Bool) → (old.nodes == new.nodes && old.pages == new.pages) ≡ b →
    MayBeLaid old rs → IsGeometry new → MayBeLaid new (if b then rs else whole_ranges new)
either_laid old new rs true is laid limits =
    let same = both old.nodes new.nodes old.pages new.pages is in
    record {
      geometry = limits;
      some = laid.some;
      few = laid.few;
      cover = cover_same old new same.0 same.1 0 (map (placed 0) rs) laid.cover;
    }
either_laid old new rs false is laid limits = whole_laid new limits

-- if the new sizes are within their limits, the new ranges may be laid out
pub ranges_suit : (old new : Geometry) (rs : List NumberRange) → MayBeLaid old rs → IsGeometry new → MayBeLaid new (grown_ranges old new rs)
ranges_suit old new rs laid limits = either_laid old new rs (old.nodes == new.nodes && old.pages == new.pages) refl laid limits
