-- Laws of chains.
use Rattle.reach.specs.Names.{ℕ, Bool, List, IsTrue, Object, IsClosedBut, IsReadClosedBut, []}
use Rattle.std.specs.Prelude.{◌↔◌, ◌∷◌}
use Rattle.reach.specs.Reached.{CanChange, IsReach}
use Rattle.reach.specs.declared.step.Step.{Step}
use Rattle.reach.specs.declared.authority.Purpose.TheVariants as purpose
use Rattle.reach.specs.Chain.{IsStep}
use Rattle.reach.specs.Links.{IsClosedFor, Links, links}

-- Object n can change or read object o exactly if the least closed set that contains n contains o.
abbrev pub ReachIsChange : Type 0
ReachIsChange = (os : List Object) (follows : Links) (inside : ℕ → Bool) (n o : ℕ) →
    IsReach os follows (n ∷ []) inside → IsTrue (inside o) ↔ CanChange os follows n o

-- A set is closed for a purpose exactly if no step leaves it.
abbrev pub StepsAreAuthority : Type 0
StepsAreAuthority = (os : List Object) (follows : Links) (inside : ℕ → Bool) →
    IsClosedFor follows os inside ↔ ((s : Step) → IsStep os follows s → IsTrue (inside s.from) → IsTrue (inside s.to))

-- A set is closed for the purpose to change exactly if it is closed but for trusted processes; for the purpose to
-- read, exactly if it is closed for reading but for these.
abbrev pub ClosedSetsAre : Type 0
ClosedSetsAre = (os : List Object) (trusted inside : ℕ → Bool) →
    (IsClosedFor (links purpose.Change trusted) os inside ↔ IsClosedBut trusted os inside)
    × (IsClosedFor (links purpose.Read trusted) os inside ↔ IsReadClosedBut trusted os inside)
