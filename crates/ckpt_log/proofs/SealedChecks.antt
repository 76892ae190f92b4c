-- Why entries that were read are refused.
use Rattle.std.proofs.Common.{◌≡◌, ℕ, List, ap, refl, sym, ◌∙◌, arith, Err, Ok, Result}
use Rattle.std.specs.Prelude.{IfErr, None, Option, Some}
use Rattle.layout.specs.Directory.{AllFitting, IsDirectory}
use Rattle.layout.specs.declared.bad_image.BadImage.{BadImage}
use Rattle.layout.specs.declared.bad_image.BadImage.TheVariants.{BadDirectory}
use Rattle.layout.specs.declared.directory.Entry.{Entry}
use Rattle.model.specs.declared.geometry.Geometry.{Geometry}
use Rattle.seal.specs.declared.sums.Sums.{Sums}
use Rattle.ckpt_log.specs.sealed.Directory.{IsNoDirectory}

abbrev seal_or : Option Sums → Sums → Sums
seal_or None s = s
seal_or (Some x) s = x

abbrev count_of : Option Sums → ℕ
count_of None = 0
count_of (Some x) = 1

pub none : (g : Geometry) (found : Option Sums) (sums : Sums) (es : List Entry) → found ≡ None →
    IsNoDirectory g found sums es BadDirectory
none g found sums es is = record {
  reason = refl;
  none = λ same. absurd (omega (arith, ap count_of (sym is ∙ same)));
}

pub other : (g : Geometry) (found : Option Sums) (found_sums sums : Sums) (es : List Entry) → found ≡ Some found_sums →
    (found_sums ≡ sums → ⊥) → IsNoDirectory g found sums es BadDirectory
other g found found_sums sums es is apart = record {
  reason = refl;
  none = λ same. absurd (apart (ap (λ (o : Option Sums). seal_or o sums) (sym is ∙ same)));
}

pub refused : {T : Type 0} (g : Geometry) (found : Option Sums) (sums : Sums) (es : List Entry) (result : Result T BadImage) →
    AllFitting es → IfErr result (λ (e : BadImage). (e ≡ BadDirectory) × (IsDirectory g es → ⊥)) →
    IfErr result (λ (e : BadImage). IsNoDirectory g found sums es e)
refused {T} g found sums es (Ok x) fits why = tt
refused {T} g found sums es (Err e) fits why = record { reason = why.0; none = λ same. (fits, why.1) }
