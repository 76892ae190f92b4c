-- What is wrong with the size of an image, or with its superblock.
use Rattle.image_explainer.proofs.Names.{ℕ, true, false, List, length, take, drop, codes, zeros, Bool, refl, ap, sym, subst, arith, HasEnd, HasMark, HasVersion}
use Rattle.image_explainer.proofs.Names.{row, length-drop, length-take-le, take_all, Version, AreBlank, BreaksMark}
use Rattle.std.proofs.Common.{◌≡◌, ◌-◌, ◌∙◌}
use Rattle.std.specs.Prelude.{if◌then◌else◌}
use Rattle.image_explainer.specs.declared.sectors.fault.SuperblockPart.TheVariants as superblock

-- the bytes after the ranges, as the code cuts them out
blank_in : (bytes : List ℕ) (b : Bool) (end : ℕ) → length bytes ≡ 512 → end ≡ (if b then 488 else 512) →
    take (end - 256) (drop 256 bytes) ≡ zeros (length (take (end - 256) (drop 256 bytes))) → AreBlank b bytes
blank_in bytes true end size is blank =
    let cut : take (end - 256) (drop 256 bytes) ≡ take 232 (drop 256 bytes) = ap (λ (n : ℕ). take (n - 256) (drop 256 bytes)) is in
    sym cut ∙ blank ∙ ap (λ (bs : List ℕ). zeros (length bs)) cut
    ∙ ap zeros (length-take-le 232 (drop 256 bytes) (omega (arith, size, length-drop 256 bytes)))
blank_in bytes false end size is blank =
    let cut : take (end - 256) (drop 256 bytes) ≡ drop 256 bytes =
    ap (λ (n : ℕ). take (n - 256) (drop 256 bytes)) is ∙ take_all 256 (drop 256 bytes) (omega (arith, size, length-drop 256 bytes)) in
    sym cut ∙ blank ∙ ap (λ (bs : List ℕ). zeros (length bs)) cut ∙ ap zeros (omega (arith, size, length-drop 256 bytes))

blank_out : (bytes : List ℕ) (b : Bool) (end : ℕ) → length bytes ≡ 512 → end ≡ (if b then 488 else 512) → AreBlank b bytes →
    take (end - 256) (drop 256 bytes) ≡ zeros (length (take (end - 256) (drop 256 bytes)))
blank_out bytes true end size is blank =
    let cut : take (end - 256) (drop 256 bytes) ≡ take 232 (drop 256 bytes) = ap (λ (n : ℕ). take (n - 256) (drop 256 bytes)) is in
    cut ∙ blank ∙ ap zeros (sym (length-take-le 232 (drop 256 bytes) (omega (arith, size, length-drop 256 bytes))))
    ∙ ap (λ (bs : List ℕ). zeros (length bs)) (sym cut)
blank_out bytes false end size is blank =
    let cut : take (end - 256) (drop 256 bytes) ≡ drop 256 bytes =
    ap (λ (n : ℕ). take (n - 256) (drop 256 bytes)) is ∙ take_all 256 (drop 256 bytes) (omega (arith, size, length-drop 256 bytes)) in
    let long : 256 ≡ length (drop 256 bytes) = omega (arith, size, length-drop 256 bytes) in
    cut ∙ blank ∙ ap zeros long ∙ ap (λ (bs : List ℕ). zeros (length bs)) (sym cut)

module _ (bytes : List ℕ) (size : length bytes ≡ 512) (magic : take 8 bytes ≡ codes "EROSCKPT") (v : Version) (has : HasVersion bytes v)
    (end : ℕ) (is : end ≡ (if (row v).sealed then 488 else 512)) where
  mark_of : HasEnd (row v).sealed bytes → HasMark bytes
  mark_of blank = record { magic = magic; version = (v, has); blank = blank }

  seal_by : (b : Bool) → (row v).sealed ≡ b → AreBlank b bytes → (HasMark bytes → ⊥) → BreaksMark bytes superblock.Seal
  seal_by true sealed blank refused =
      (magic, v, has, sealed, blank, λ seal. refused (mark_of (subst (λ (b : Bool). HasEnd b bytes) (sym sealed) (blank, seal))))
  seal_by false plain blank refused = absurd (refused (mark_of (subst (λ (b : Bool). HasEnd b bytes) (sym plain) blank)))

  -- if a sector with magic, version and zeros isn't marked as a superblock, its seal is wrong
  pub seal_breaks : take (end - 256) (drop 256 bytes) ≡ zeros (length (take (end - 256) (drop 256 bytes))) → (HasMark bytes → ⊥) →
      BreaksMark bytes superblock.Seal
  seal_breaks blank refused = seal_by (row v).sealed refl (blank_in bytes (row v).sealed end size is blank) refused

  pub tail_breaks : (take (end - 256) (drop 256 bytes) ≡ zeros (length (take (end - 256) (drop 256 bytes))) → ⊥) →
      BreaksMark bytes superblock.Tail
  tail_breaks other = (magic, v, has, λ blank. other (blank_out bytes (row v).sealed end size is blank))
