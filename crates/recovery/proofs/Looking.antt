-- Steps that only read frames.
use Rattle.capability.specs.Parts.{Parts}
use Rattle.std.proofs.Common.{◌≡◌}

module _ {S : Type 0} (parts : S → Parts) (Continues : S → S → Type 0) where
  -- frames were only read, and the device didn't fail
  pub record HasLooked (old now : S) : Type 0 where
    pub same : parts now ≡ parts old
    pub continues : Continues old now
