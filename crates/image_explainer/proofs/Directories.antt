-- What is wrong with a directory.
use Rattle.image_explainer.proofs.Names.{nat_tests, ℕ, Bool, true, false, List, Option, None, Some, length, take, ap, sym, refl, subst, arith, Geometry, Entry}
use Rattle.image_explainer.proofs.Names.{Image, AllFitting, IsDirectory, HasHeader, HasPlan, HasBadDirectory, Plan, IsFault, SectorFault, row, get_or_default}
use Rattle.image_explainer.proofs.Names.{DirectoryPart, BreaksDirectory, IsAmong, IsFirstEntry, IfNone, IfSome, directory_bytes, directory_length}
use Rattle.image_explainer.proofs.Names.{directory_sector, sectors_from, fewer_entries, is_some, AreEntriesIf, sums_if, SealedHeader, Version, AreEntries}
use Rattle.image_explainer.proofs.Names.{sealed_length, BreaksDirectoryAt, HoldsEntries, IsPieceFault}
use Rattle.std.proofs.Common.{◌≡◌, ◌≢◌, ◌+◌, ◌*◌, ◌/◌, ◌<◌, ◌≤◌, ◌∙◌}
use Rattle.image_explainer.specs.declared.sectors.fault.DirectoryPart.TheVariants as entry
use Rattle.image_explainer.specs.declared.sectors.fault.SectorFault.TheVariants as fault

pub all_among : (g : Geometry) (es : List Entry) → ((k : ℕ) → k < length es → IsAmong g es k) → IsDirectory g es
all_among g es each = grind (arith, nat_tests, get_or_default)

-- what holds if something was found, or if nothing was
pub some_found : {T : Type 0} (found : Option T) (P : T → Type 0) → is_some found ≡ true → IfSome found P → (t : T) × P t
some_found None P is some = absurd (cc is)
some_found (Some t) P is some = (t, some)

pub none_found : {T : Type 0} (found : Option T) (A : Type 0) → is_some found ≡ false → IfNone found A → A
none_found None A is none = none
none_found (Some t) A is none = absurd (cc is)

-- ---- where the directory lies

pub inside : (p q : Plan) (v : Version) (at sectors n size : ℕ) → q ≡ p → v ≡ p.version →
    at + directory_length q.version q.geometry.log ≤ q.total → sectors ≡ directory_length v n → n ≤ p.geometry.log → p.total ≤ size →
    at + sectors ≤ size
inside p q v at sectors n size same version lies count few whole =
    let there : at + directory_length p.version p.geometry.log ≤ p.total =
    subst (λ (x : Plan). at + directory_length x.version x.geometry.log ≤ x.total) same lies in
    let fewer = fewer_entries p.version n p.geometry.log few in
    omega (arith, there, fewer, whole, count ∙ ap (λ (x : Version). directory_length x n) version)

pub sealed_inside : (p q : Plan) (at n size : ℕ) → q ≡ p → (row p.version).sealed ≡ true →
    at + directory_length q.version q.geometry.log ≤ q.total → n ≤ p.geometry.log → p.total ≤ size → at + (n + 29) / 30 ≤ size
sealed_inside p q at n size same is lies few whole =
    subst (λ (k : ℕ). at + k ≤ size) (sealed_length p.version n is)
    (inside p q p.version at (directory_length p.version n) n size same refl lies refl few whole)

-- ---- the entries that were read

module _ (size : ℕ) (image : Image) (p : Plan) (h : SealedHeader) (plan : HasPlan image size p) (header : HasHeader image p h) where
  pub plain_holds : (row p.version).sealed ≡ false → (es : List Entry) (at sectors n : ℕ) (v : Version) (run : List ℕ) →
      length es ≡ n → n ≡ h.header.entries → AllFitting es → at ≡ directory_sector p h.header.generation → v ≡ p.version →
      sectors ≡ directory_length v n → run ≡ sectors_from image at sectors → take (16 * n) run ≡ directory_bytes es →
      HoldsEntries image p h es
  plain_holds is es at sectors n v run count all fits place version long read spelt =
      let there : run ≡ sectors_from image (directory_sector p h.header.generation) (directory_length p.version (length es)) =
      read ∙ ap (λ (k : ℕ). sectors_from image k sectors) place
      ∙ ap (sectors_from image (directory_sector p h.header.generation))
      (long ∙ ap (λ (x : Version). directory_length x n) version ∙ ap (directory_length p.version) (sym count)) in
      record {
        count = count ∙ all;
        fits = fits;
        spelt = subst (λ (b : Bool). AreEntriesIf b image p h.header.generation es) (sym is)
            (ap (λ (k : ℕ). take (16 * k) (sectors_from image (directory_sector p h.header.generation)
            (directory_length p.version (length es)))) count ∙ ap (take (16 * n)) (sym there) ∙ spelt);
      }

  pub sealed_holds : (row p.version).sealed ≡ true → (es : List Entry) (at : ℕ) → length es ≡ h.header.entries → AllFitting es →
      at ≡ directory_sector p h.header.generation → AreEntries image at es → HoldsEntries image p h es
  sealed_holds is es at count fits place are = record {
    count = count;
    fits = fits;
    spelt = subst (λ (b : Bool). AreEntriesIf b image p h.header.generation es) (sym is)
        (subst (λ (k : ℕ). AreEntries image k es) place are);
  }

  module _ (bad : HasBadDirectory image p h) where
    entry_there : (es : List Entry) (sector : ℕ) → HoldsEntries image p h es → sector ≡ directory_sector p h.header.generation →
        sums_if (row p.version).sealed es ≡ h.directory → (part : DirectoryPart) → BreaksDirectory p.geometry es part →
        IsFirstEntry p.geometry es part → BreaksDirectoryAt image p h sector part
    entry_there es sector holds place sums (entry.Object k object) breaks first = (es, holds, place, sums, breaks, first)
    entry_there es sector holds place sums (entry.Slot k slot) breaks first = (es, holds, place, sums, breaks, first)
    entry_there es sector holds place sums (entry.Order k object before) breaks first = (es, holds, place, sums, breaks, first)
    entry_there es sector holds place sums (entry.Shared j k slot) breaks first = (es, holds, place, sums, breaks, first)
    entry_there es sector holds place sums entry.Unsealed breaks first = absurd breaks
    entry_there es sector holds place sums entry.Rest breaks first = absurd breaks
    entry_there es sector holds place sums entry.Sums breaks first = absurd breaks

    fault_at : (sector : ℕ) (part : DirectoryPart) → BreaksDirectoryAt image p h sector part →
        IsFault size image (fault.Directory sector part)
    fault_at sector part breaks = ((p, h, plan, header, bad), (p, h, plan, header, breaks))

    pub entry_fault : (es : List Entry) (sector : ℕ) (part : DirectoryPart) → HoldsEntries image p h es →
        sector ≡ directory_sector p h.header.generation → sums_if (row p.version).sealed es ≡ h.directory →
        BreaksDirectory p.geometry es part → IsFirstEntry p.geometry es part → IsFault size image (fault.Directory sector part)
    entry_fault es sector part holds place sums breaks first =
        fault_at sector part (entry_there es sector holds place sums part breaks first)

    pub sums_fault : (es : List Entry) (sector : ℕ) → HoldsEntries image p h es → sector ≡ directory_sector p h.header.generation →
        sums_if (row p.version).sealed es ≢ h.directory → IsFault size image (fault.Directory sector entry.Sums)
    sums_fault es sector holds place other = fault_at sector entry.Sums (es, holds, place, other)

    pub piece_fault : (row p.version).sealed ≡ true → (at n : ℕ) → at ≡ directory_sector p h.header.generation → n ≡ h.header.entries →
        (f : SectorFault) → IsPieceFault image at n f → IsFault size image f
    piece_fault is at n place count f why = piece_there f
        (subst (λ (k : ℕ). IsPieceFault image k h.header.entries f) place (subst (λ (k : ℕ). IsPieceFault image at k f) count why)) where
          piece_there : (f : SectorFault) → IsPieceFault image (directory_sector p h.header.generation) h.header.entries f →
              IsFault size image f
          piece_there (fault.Directory sector entry.Unsealed) why = fault_at sector entry.Unsealed (is, why.0, why.1, why.2, why.3)
          piece_there (fault.Directory sector entry.Rest) why = fault_at sector entry.Rest (is, why.0, why.1, why.2, why.3)
          piece_there (fault.Directory sector _) why = absurd why.3
          piece_there _ why = absurd why
