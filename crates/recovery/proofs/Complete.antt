-- If none of the ten reasons holds for an image, it denotes a saved state.
use Rattle.recovery.proofs.Names.{ℕ, zero, suc, List, [], length, refl, sym, ap, subst, inl, inr, arith, cases_lt, Frame, Image, BadImage, frame_at}
use Rattle.recovery.proofs.Names.{AreKeepable, IsSoundFrames, IsBad, IsInconsistent, kept_of, saved_of, NotBadIsDenoted, Entry, CheckpointHeader, IsFrameOf}
use Rattle.recovery.proofs.Names.{Encodes, HasDirectory, HasHeader, HasPlan, IsBadBy, IsTooSmall, SavedState, total_in, IsPlan, Plan, superblock_bytes}
use Rattle.recovery.proofs.Names.{total_reported, Bool, true, false, false≢true, row, SealedHeader, HasUnits}
use Rattle.std.proofs.Common.{◌≡◌, ◌<◌, ◌≤◌, ◌^◌, ◌∷◌, ◌∙◌, ◌+◌}
use Rattle.layout.specs.Image.{frame_in}
use Rattle.layout.specs.declared.bad_image.BadImage.TheVariants as bad
use Rattle.recovery.proofs.Denoted.{denoted_by}
use Rattle.recovery.proofs.Sound.{consistent_is_sound}

-- a property of a list's first frame, and of each later one by its number, holds of all
each_cons : (P : ℕ → Frame → Type 0) (n : ℕ) (f : Frame) (fs : List Frame) → P zero f → ((o : ℕ) → o < n → P (suc o) (frame_at fs o)) →
    (o : ℕ) → o < suc n → P o (frame_at (f ∷ fs) o)
each_cons P n f fs first each zero lt = first
each_cons P n f fs first each (suc o) lt = each o (omega (arith, lt))

-- if for each of n numbers a frame can't be missing, then all n frames can't be missing
frames_there : (n : ℕ) (P : ℕ → Frame → Type 0) → ((o : ℕ) → o < n → ((f : Frame) → P o f → ⊥) → ⊥) →
    ((fs : List Frame) → length fs ≡ n → ((o : ℕ) → o < n → P o (frame_at fs o)) → ⊥) → ⊥
frames_there zero P some none = none [] refl (λ o lt. absurd (omega (arith, lt)))
frames_there (suc n) P some none = some zero (omega arith) (λ f first.
    frames_there n (λ o. P (suc o)) (λ o lt. some (suc o) (omega (arith, lt))) (λ fs long each.
    none (f ∷ fs) (omega (arith, long)) (each_cons P n f fs first each)))

module _ (size : ℕ) (c : Image) (fair : (reason : BadImage) → IsBad size c reason → ⊥) where
  -- no reason of 1 to 7 holds, so plan, header, directory and frames can't be missing
  first : (reason : BadImage) → IsBadBy c size reason → ⊥
  first reason why = fair reason (inl why)

  large : IsTooSmall c size → ⊥
  large = first bad.Small

  planned : (p : Plan) → IsPlan p → c 0 ≡ superblock_bytes p → HasPlan c size p
  planned p is spelt =
      let total : total_in (c 0) ≡ p.total = ap total_in spelt ∙ total_reported p is in record {
        least = elim (cases_lt size 5) [ inl less ↦ absurd (large (inl less)) | inr le ↦ le ];
        whole = elim (cases_lt size p.total) [
          | inl less ↦ absurd (large (inr (subst (λ (n : ℕ). size < n) (sym total) less)))
          | inr le ↦ le
        ];
        fits = is;
        spelt = spelt;
      }

  with_plan : ((p : Plan) → HasPlan c size p → ⊥) → ⊥
  with_plan none = first bad.NotASuperblock (
    large,
    λ mark. first bad.BadGeometry (
      large,
      mark,
      λ p is spelt. none p
          (planned p is spelt),
    ),
  )

  module _ (p : Plan) (plan : HasPlan c size p) where
    with_header : ((h : SealedHeader) → HasHeader c p h → ⊥) → ⊥
    with_header none = first bad.BadHeader (p, plan, (λ no. first bad.NoHeader (p, plan, no)), none)

    module _ (h : SealedHeader) (header : HasHeader c p h) where
      with_directory : ((es : List Entry) → HasDirectory c p h es → ⊥) → ⊥
      with_directory none = first bad.BadDirectory (p, h, plan, header, none)

      -- if the units are sealed, or the version has no seals, nothing of a saved state is missing but frames
      module _ (es : List Entry) (directory : HasDirectory c p h es)
          (units : (row p.version).sealed ≡ true → HasUnits c p h.root h.header.generation es) where
        with_frames : ((s : SavedState) → Encodes c size s → ⊥) → ⊥
        with_frames none = frames_there (p.geometry.nodes + p.geometry.pages)
            (λ o f. IsFrameOf p.geometry h.header.age o (frame_in c p h.header.generation es o) f)
            (λ o lt no. first bad.BadFrame (p, h, es, plan, header, directory, inl (o, lt, no)))
            (λ fs long each. none (record { plan = p; header = h.header; directory = es; frames = fs })
            (record {
              plan = plan;
              commit = h;
              same = refl;
              header = header;
              directory = directory;
              count = long;
              each = each;
              units = units;
            }))

      with_state : (es : List Entry) → HasDirectory c p h es → ((s : SavedState) → Encodes c size s → ⊥) → ⊥
      with_state es directory none = by (row p.version).sealed refl where
        by : (b : Bool) → (row p.version).sealed ≡ b → ⊥
        by true is = first bad.BadFrame
            (p, h, es, plan, header, directory, inr (is, λ units. with_frames es directory (λ sealed. units) none))
        by false is = with_frames es directory (λ sealed. absurd (false≢true (sym is ∙ sealed))) none

  encoded : ((s : SavedState) → Encodes c size s → ⊥) → ⊥
  encoded none = with_plan (λ p plan. with_header p plan (λ h header. with_directory p plan h header (λ es directory.
      with_state p plan h header es directory none)))

  -- no reason of 8 to 10 holds, so the frames' world is sound
  module _ (s : SavedState) (e : Encodes c size s) where
    last : (reason : BadImage) → IsInconsistent s.frames reason → ⊥
    last reason why = fair reason (inr (kept_of s, (s, e, refl), why))

    keepable : AreKeepable s.plan.geometry s.header.age s.frames
    keepable = record { count = e.count; each = λ n lt. (e.each n lt).0 }

    sound : (IsSoundFrames s.plan.geometry s.header.age s.frames → ⊥) → ⊥
    sound none = last bad.BadCapability (λ named. last bad.BadProcess (
      named,
      λ whole. last bad.BadBank (
        named,
        whole,
        λ banked.
            none (consistent_is_sound s.plan.geometry s.header.age s.frames keepable (subst (λ
            (h : CheckpointHeader). h.age ≤ 2 ^ 62) e.same e.header.fits.age) named whole banked),
      ),
    ))

pub not_bad_denoted : NotBadIsDenoted
not_bad_denoted size c fair none = encoded size c fair (λ s e. sound size c fair s e (λ is.
    none s.plan.geometry (saved_of (kept_of s)) (denoted_by s.plan.geometry size c (kept_of s) (record { geometry = refl; sound = is })
    (s, e, refl))))
