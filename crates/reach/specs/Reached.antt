-- What processes can reach.
use Rattle.reach.specs.Names.{ℕ, Bool, List, IsTrue, All, Contains, Geometry, Object, Running, Up, IsRun, Turn, IsSound}
use Rattle.reach.specs.Names.{AreBy, with_free, IsConfinedBut}
use Rattle.std.specs.Prelude.{◌≡◌, ◌↔◌}
use Rattle.reach.specs.Links.{IsClosedFor, Links}

-- the objects of some sound world
abbrev pub AreSoundObjects : List Object → Type 0
AreSoundObjects os = (g : Geometry) × (age : ℕ) × IsSound g (record { objects = os; age = age })

-- the least closed set that contains these numbers
pub record IsReach (os : List Object) (follows : Links) (starts : List ℕ) (inside : ℕ → Bool) : Type 0 where
  pub closed : IsClosedFor follows os inside
  pub begins : All (λ p. IsTrue (inside p)) starts
  pub least : (other : ℕ → Bool) → IsClosedFor follows os other → All (λ p. IsTrue (other p)) starts → (n : ℕ) →
      IsTrue (inside n) → IsTrue (other n)

-- object n can change or read object o: every closed set that contains n contains o
abbrev pub CanChange : List Object → Links → ℕ → ℕ → Type 0
CanChange os follows n o = (inside : ℕ → Bool) → IsClosedFor follows os inside → IsTrue (inside n) → IsTrue (inside o)

-- `set` contains those of `starts` that can change or read object o
abbrev pub AreChangers : List Object → Links → List ℕ → ℕ → (ℕ → Bool) → Type 0
AreChangers os follows starts o set = (n : ℕ) → IsTrue (set n) ↔ (Contains starts n × CanChange os follows n o)

-- the authority bound for a set: any run of invocations, loads and stores by its processes, and by those that they
-- make from free numbers, is confined
abbrev pub BoundsRuns : List Object → (ℕ → Bool) → (ℕ → Bool) → Type 0
BoundsRuns os trusted inside = (g : Geometry) (s t : Running) (turns : List Turn) → s.now.objects ≡ os →
    IsSound g s.now → IsRun g (Up s) turns (Up t) → AreBy (with_free os inside) turns →
    IsConfinedBut trusted inside os t.now.objects
