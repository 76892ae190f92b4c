-- Why banks aren't a tree that owns all objects within their limits.
use Rattle.recovery.proofs.Names.{nat_tests, Bool, false, true, List, sym, arith, IsTrue, Frame, Unbanked, AreBanked, IsUnbanked}
use Rattle.std.proofs.Common.{◌≡◌, ◌∙◌}
use Rattle.std.specs.Prelude.{◌↔◌}

-- if a test is false, the property that it decides doesn't hold
pub refuted : (b : Bool) (P : Type 0) → (IsTrue b ↔ P) → b ≡ false → P → ⊥
refuted b P tells is p = let so : b ≡ true = tells.1 p in let no_so : true ≡ false = sym so ∙ is in cc

-- if all rules about banks hold, no `IsUnbanked` fault does
pub unbanked_refuted : (fs : List Frame) (why : Unbanked) → IsUnbanked fs why → AreBanked fs → ⊥
unbanked_refuted fs why broken banked = grind (arith, nat_tests)
