-- An image that denotes a saved state has none of the first seven reasons to be refused.
use Rattle.layout.proofs.Names.{nat_tests, ℕ, List, sym, subst, arith, frame_at, Image, BadImage, Entry, CheckpointHeader}
use Rattle.layout.proofs.Names.{SavedState, Encodes, IsBadBy, HasHeader, HasDirectory, HasPlan, IsTooSmall, Plan, HasMark}
use Rattle.layout.proofs.Names.{SealedHeader, IsFrameOf, frame_in, inl, inr}
use Rattle.layout.specs.sealed.Units.{HasUnits}
use Rattle.layout.proofs.OneHeader.{none_committed}
use Rattle.std.proofs.Common.{◌≡◌}
use Rattle.layout.specs.declared.bad_image.BadImage.TheVariants as bad
use Rattle.layout.proofs.Images.{state, same_plan, same_header, same_directory}
use Rattle.layout.proofs.Superblocks.{marked}
use Rattle.layout.proofs.Totals.{total_reported}

module _ (c : Image) (size : ℕ) (s : SavedState) (denoted : Encodes c size s) where
  big_enough : IsTooSmall c size → ⊥
  big_enough small = grind (arith, nat_tests, total_reported)

  -- the same state, with a superblock that the image has
  denoted_by : (p : Plan) → HasPlan c size p → Encodes c size (state p s.header s.directory s.frames)
  denoted_by p has =
      subst (λ (q : Plan). Encodes c size (state q s.header s.directory s.frames)) (same_plan c size s.plan p denoted.plan has) denoted

  directory_by : (p : Plan) (h : SealedHeader) → HasPlan c size p → HasHeader c p h → HasDirectory c p h s.directory
  directory_by p h has header =
      let d1 = denoted_by p has in
      subst (λ (g : SealedHeader). HasDirectory c p g s.directory) (same_header c p d1.commit h d1.header header) d1.directory

  pub frames_not_bad : (reason : BadImage) → IsBadBy c size reason → ⊥
  frames_not_bad bad.Small why = big_enough why
  frames_not_bad bad.NotASuperblock why = why.1 (subst HasMark (sym denoted.plan.spelt)
      (marked s.plan denoted.plan.fits.few))
  frames_not_bad bad.BadGeometry why = why.2 s.plan denoted.plan.fits denoted.plan.spelt
  frames_not_bad bad.NoHeader why =
      none_committed why.0.version c (denoted_by why.0 why.1).commit why.2 (denoted_by why.0 why.1).header.committed
  frames_not_bad bad.BadHeader why = why.3 (denoted_by why.0 why.1).commit (denoted_by why.0 why.1).header
  frames_not_bad bad.BadDirectory why = why.4 s.directory (directory_by why.0 why.1 why.2 why.3)
  frames_not_bad bad.BadFrame why =
      let d1 = denoted_by why.0 why.3 in
      let here : HasDirectory c why.0 why.1 s.directory = directory_by why.0 why.1 why.3 why.4 in
      let same_h : d1.commit ≡ why.1 = same_header c why.0 d1.commit why.1 d1.header why.4 in
      let same_d : s.directory ≡ why.2 = same_directory c why.0 why.1 s.directory why.2 here why.5 in
      elim why.6 [
        | inl n ↦
            let each : IsFrameOf why.0.geometry d1.commit.header.age n.0 (frame_in c why.0 d1.commit.header.generation s.directory n.0)
            (frame_at s.frames n.0) =
            subst (λ (h : CheckpointHeader). IsFrameOf why.0.geometry h.age n.0 (frame_in c why.0 h.generation s.directory n.0)
            (frame_at s.frames n.0)) (sym d1.same) (d1.each n.0 n.1) in
            let at_h : IsFrameOf why.0.geometry why.1.header.age n.0 (frame_in c why.0 why.1.header.generation s.directory n.0)
            (frame_at s.frames n.0) =
            subst (λ (h : SealedHeader). IsFrameOf why.0.geometry h.header.age n.0 (frame_in c why.0 h.header.generation s.directory n.0)
            (frame_at s.frames n.0)) same_h each in
            n.2 (frame_at s.frames n.0) (subst (λ (es : List Entry). IsFrameOf why.0.geometry why.1.header.age n.0
            (frame_in c why.0 why.1.header.generation es n.0) (frame_at s.frames n.0)) same_d at_h)
        | inr unsealed ↦
            let units : HasUnits c why.0 d1.commit.root d1.commit.header.generation s.directory =
            subst (λ (h : CheckpointHeader). HasUnits c why.0 d1.commit.root h.generation s.directory) (sym d1.same)
            (d1.units unsealed.0) in
            let at_h : HasUnits c why.0 why.1.root why.1.header.generation s.directory =
            subst (λ (h : SealedHeader). HasUnits c why.0 h.root h.header.generation s.directory) same_h units in
            unsealed.1 (subst (λ (es : List Entry). HasUnits c why.0 why.1.root why.1.header.generation es) same_d at_h)
      ]
  frames_not_bad _ why = absurd why
