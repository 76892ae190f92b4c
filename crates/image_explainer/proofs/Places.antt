-- Facts about a device that was only read, refusals that can't be, and what is bad in an image.
use Rattle.image_explainer.proofs.Names.{arith, nat_tests, ℕ, Bool, true, false, List, refl, sym, subst, inl, inr, Disk, Image, ReadsOnly, agrees_is, OpenFault}
use Rattle.image_explainer.proofs.Names.{BadImage, HasPlan, HasHeader, HasDirectory, HasNoHeader, HasBadHeader, HasBadDirectory, IsBadBy, Plan, Entry}
use Rattle.image_explainer.proofs.Names.{same_plan, same_header, same_directory, row, SectorFault, IsFault, Result, Ok, Err, IfErr, IsNoReason, HasBadFrame}
use Rattle.image_explainer.proofs.Names.{HasBadObject, SealedHeader, HasUnits, none_committed, HasNoCommitted, HasNone, IsUnplanned, HasSaved, IsBehindFront}
use Rattle.image_explainer.proofs.Names.{IsFrameFault, IsUnitFault}
use Rattle.std.proofs.Common.{◌≡◌}
use Rattle.layout.specs.declared.open_fault.OpenFault.TheVariants as open_fault
use Rattle.layout.specs.declared.bad_image.BadImage.TheVariants as bad
use Rattle.image_explainer.proofs.Marks.{has_mark, not_small}
use Rattle.image_explainer.specs.declared.sectors.fault.SectorFault.TheVariants as fault

-- what holds of a device still holds after it was only read, and what holds then held before
module _ {old new : Disk} (P : ℕ → Image → Type 0) (reads : ReadsOnly old new) where
  pub still : P old.sectors old.seen → P new.sectors new.seen
  still has = subst (λ (n : ℕ). P n new.seen) (sym reads.size)
      (subst (λ (c : Image). P old.sectors c) (sym (agrees_is new.seen old.seen reads.seen)) has)

  pub before : P new.sectors new.seen → P old.sectors old.seen
  before has = subst (λ (n : ℕ). P n old.seen) reads.size
      (subst (λ (c : Image). P new.sectors c) (agrees_is new.seen old.seen reads.seen) has)

-- a refusal that can't be is none
pub refused_by : {T : Type 0} (r : Result T OpenFault) (P : OpenFault → Type 0) → ((e : OpenFault) → P e → IsNoReason e) → IfErr r P →
    IfErr r IsNoReason
refused_by (Ok found) P none why = tt
refused_by (Err e) P none why = none e why

module _ (size : ℕ) (image : Image) (p : Plan) (plan : HasPlan image size p) where
  pub planned : (e : OpenFault) → IsUnplanned image size e → IsNoReason e
  planned open_fault.Failed why = tt
  planned open_fault.NoMemory why = tt
  planned (open_fault.Bad bad.Small) why = not_small size image p plan why
  planned (open_fault.Bad bad.NotASuperblock) why = why.1 (has_mark size image p plan)
  planned (open_fault.Bad bad.BadGeometry) why = why.2 p plan.fits plan.spelt
  planned (open_fault.Bad other) why = why

module _ (image : Image) (p : Plan) (h : SealedHeader) (header : HasHeader image p h) where
  pub committed : (e : OpenFault) → HasNoCommitted image p e → IsNoReason e
  committed open_fault.Failed why = tt
  committed open_fault.NoMemory why = tt
  committed (open_fault.Bad bad.NoHeader) why = none_committed p.version image h why header.committed
  committed (open_fault.Bad bad.BadHeader) why = why.1 h header
  committed (open_fault.Bad other) why = why

  pub named : (es : List Entry) → HasDirectory image p h es → (e : OpenFault) → HasNone image p e → IsNoReason e
  named es directory (open_fault.Bad bad.BadDirectory) why =
      why.2 es (subst (λ (g : SealedHeader). HasDirectory image p g es) (same_header image p h why.0 header why.1) directory)
  named es directory open_fault.Failed why = tt
  named es directory open_fault.NoMemory why = tt
  named es directory (open_fault.Bad bad.NoHeader) why = none_committed p.version image h why header.committed
  named es directory (open_fault.Bad bad.BadHeader) why = why.1 h header
  named es directory (open_fault.Bad other) why = why

-- ---- what is bad, if the superblock is known

module _ (size : ℕ) (image : Image) (p : Plan) (plan : HasPlan image size p) where
  pub bad_none : IsBadBy image size bad.NoHeader → HasNoHeader image p
  bad_none (q, has, none) = subst (HasNoHeader image) (same_plan image size q p has plan) none

  pub bad_header : IsBadBy image size bad.BadHeader → (HasNoHeader image p → ⊥) × HasBadHeader image p
  bad_header (q, has, some, none) =
      subst (λ (x : Plan). (HasNoHeader image x → ⊥) × HasBadHeader image x) (same_plan image size q p has plan) (some, none)

  pub bad_directory : IsBadBy image size bad.BadDirectory → (h : SealedHeader) × HasHeader image p h × HasBadDirectory image p h
  bad_directory (q, h, has, header, none) =
      subst (λ (x : Plan). (h : SealedHeader) × HasHeader image x h × HasBadDirectory image x h) (same_plan image size q p has plan)
      (h, header, none)

  pub bad_frame : IsBadBy image size bad.BadFrame → (h : SealedHeader) × (es : List Entry) × HasHeader image p h × HasDirectory image p h es
      × HasBadFrame image p h es
  bad_frame (q, h, es, has, header, directory, none) =
      subst (λ (x : Plan). (h : SealedHeader) × (es : List Entry) × HasHeader image x h × HasDirectory image x h es
      × HasBadFrame image x h es)
      (same_plan image size q p has plan) (h, es, header, directory, none)

-- a reason that is none of the first three is a later one
pub behind_front : (r : BadImage) → (r ≡ bad.Small → ⊥) → (r ≡ bad.NotASuperblock → ⊥) → (r ≡ bad.BadGeometry → ⊥) → IsBehindFront r
behind_front r small mark geometry = grind (arith, nat_tests)

-- ---- what is bad, if header and directory are known

-- if something doesn't follow from b, then b is true, and it doesn't hold
pub unless : (b : Bool) (A : Type 0) → ((b ≡ true → A) → ⊥) → (b ≡ true) × (A → ⊥)
unless true A none = (refl, λ a. none (λ is. a))
unless false A none = absurd (none (λ is. absurd (cc is)))

module _ (size : ℕ) (image : Image) (p : Plan) (h : SealedHeader) (es : List Entry) (plan : HasPlan image size p)
    (header : HasHeader image p h) (directory : HasDirectory image p h es) where
  saved : HasSaved size image p h es
  saved = record { plan = plan; header = header; directory = directory }

  pub bad_here : (g : SealedHeader) (ds : List Entry) → HasHeader image p g → HasDirectory image p g ds → HasBadFrame image p g ds →
      HasBadFrame image p h es
  bad_here g ds has there none =
      let headers : g ≡ h = same_header image p g h has header in
      let same : ds ≡ es = same_directory image p h ds es (subst (λ (x : SealedHeader). HasDirectory image p x ds) headers there)
      directory in
      subst (HasBadFrame image p h) same (subst (λ (x : SealedHeader). HasBadFrame image p x ds) headers none)

  pub bad_object : ((row p.version).sealed ≡ true → HasUnits image p h.root h.header.generation es) → HasBadFrame image p h es →
      HasBadObject image p h.header es
  bad_object right (inl none) = none
  bad_object right (inr none) = absurd (none.1 (right none.0))

  pub frame_fault : ((row p.version).sealed ≡ true → HasUnits image p h.root h.header.generation es) → HasBadFrame image p h es →
      (f : SectorFault) → IsFrameFault image p h.header es f → IsFault size image f
  frame_fault right none (fault.Frame number is_page part) why = (
    (p, h, es, plan, header, directory, none),
    (p, h, es, saved, right, why.0, why.1, why.2, why.3, why.4),
  )
  frame_fault right none _ why = absurd why

  pub unit_fault : (row p.version).sealed ≡ true → HasBadFrame image p h es → (f : SectorFault) → IsUnitFault image p h es f →
      IsFault size image f
  unit_fault sealed none (fault.Unit number is_page part) why = (
    (p, h, es, plan, header, directory, none),
    (p, h, es, saved, sealed, why.0, why.1, why.2, why.3, why.4, why.5),
  )
  unit_fault sealed none fault.Root why = (
    (p, h, es, plan, header, directory, none),
    (p, h, es, saved, sealed, why.0, why.1),
  )
  unit_fault sealed none _ why = absurd why
