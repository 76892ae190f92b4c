-- Images that agree, everywhere or except in some sectors.
use Rattle.std.proofs.Common.{◌≡◌, ◌<◌, ℕ, sym, ◌∙◌, ⊎_elim}
use Rattle.std.proofs.Math.Path.{fun_ext}
use Rattle.std.proofs.lemmas.Bool.{cases_lt}
use Rattle.device.specs.Disk.{Image, IsWhole}
use Rattle.device.specs.Calls.{Agrees, Elsewhere}

-- images that agree are equal, so a property of one holds of the other
pub agrees_is : (new old : Image) → Agrees new old → new ≡ old
agrees_is new old same = fun_ext same

-- images that agree differ at most in the n sectors from `at` on
pub elsewhere_same : (at n : ℕ) (old new : Image) → Agrees new old → Elsewhere at n old new
elsewhere_same at n old new same = record { before = λ i _. same i; after = λ i _. same i }

-- if two changes in a row change only these sectors, so do both together
pub elsewhere_on : (at n : ℕ) (old mid new : Image) → Elsewhere at n old mid → Elsewhere at n mid new → Elsewhere at n old new
elsewhere_on at n old mid new first second = record {
  before = λ i lt. second.before i lt ∙ first.before i lt;
  after = λ i le. second.after i le ∙ first.after i le;
}
