-- Why no header of version 3 is committed, and what is wrong with the committed one.
use Rattle.image_explainer.proofs.Names.{ℕ, Bool, true, List, sym, subst, arith, Image, IsHeader, HasBadHeader, HasNoHeader, HasPlan, Plan, IsFault}
use Rattle.image_explainer.proofs.Names.{SectorFault, row, IsRefused, NoPair, CommitsNoneIf, SealedHeader, are_slots, slots_in, header_sector, AreRead}
use Rattle.image_explainer.proofs.Names.{IsChosen, numbered, sealed_header, chosen_commits, greatest_too, header_by, no_pair_too, read_numbers, BreaksHeaderIf}
use Rattle.image_explainer.proofs.Names.{IsLostIn, IsSlotsFault, HeaderPart}
use Rattle.std.proofs.Common.{◌≡◌, ◌%◌, ◌∙◌}
use Rattle.ckpt_log.specs.declared.sealed.opening.HeaderSlot.{HeaderSlot}
use Rattle.image_explainer.specs.declared.sectors.fault.HeaderPart.TheVariants as header
use Rattle.image_explainer.specs.declared.sectors.fault.SectorFault.TheVariants as fault

module _ (image : Image) (p : Plan) (is : (row p.version).sealed ≡ true) (xs : List HeaderSlot) (read : AreRead image xs) where
  pub none_there : IsRefused (numbered xs) NoPair → HasNoHeader image p
  none_there none = subst (λ (b : Bool). CommitsNoneIf b image) (sym is)
      (slots_in image, are_slots image, no_pair_too (numbered xs) (slots_in image) (read_numbers image xs read) none)

  pub none_within : HasBadHeader image p → (h : SealedHeader) → IsChosen xs h → IsHeader 2 p.geometry.log h.header → ⊥
  none_within bad h chosen fits = bad h (sealed_header image p is h (header_by image xs p.geometry.log h read chosen fits))

  lost_there : (sector n : ℕ) → IsLostIn xs n → sector ≡ header_sector (n % 3) →
      BreaksHeaderIf true image p.geometry.log sector (header.Lost n)
  lost_there sector n lost place =
      let same = read_numbers image xs read in (
        slots_in image,
        lost.0,
        are_slots image,
        greatest_too (numbered xs) (slots_in image) lost.0 same lost.1,
        lost.2,
        sym (same.gate (n % 3) (omega arith)) ∙ lost.3,
        place,
      )

  breaks_there : (sector : ℕ) (part : HeaderPart) → IsSlotsFault xs p.geometry.log (fault.Header sector part) →
      BreaksHeaderIf true image p.geometry.log sector part
  breaks_there sector (header.Lost n) why = lost_there sector n why.0 why.1
  breaks_there sector (header.Entries entries slots) why = (why.0, chosen_commits image xs why.0 read why.1, why.2, why.3)
  breaks_there sector (header.Age age) why = (why.0, chosen_commits image xs why.0 read why.1, why.2, why.3)
  breaks_there sector (header.Generation generation age) why = (why.0, chosen_commits image xs why.0 read why.1, why.2, why.3)
  breaks_there sector (header.Sequence sequence age) why = (why.0, chosen_commits image xs why.0 read why.1, why.2, why.3)
  breaks_there sector header.Bytes why = absurd why.3

  pub slots_fault : (size : ℕ) (f : SectorFault) → HasPlan image size p → (HasNoHeader image p → ⊥) → HasBadHeader image p →
      IsSlotsFault xs p.geometry.log f → IsFault size image f
  slots_fault size (fault.Header sector part) plan some bad why = (
    (p, plan, some, bad),
    (p, plan, subst (λ (b : Bool). BreaksHeaderIf b image p.geometry.log sector part) (sym is) (breaks_there sector part why)),
  )
  slots_fault size _ plan some bad why = absurd why
