-- Closed sets whose members may start trusted processes outside, and what the members can change.
use Rattle.confinement.specs.Names.{ℕ, Bool, true, false, not, List, [], IsTrue, Capability, Start, Invocation}
use Rattle.confinement.specs.Names.{Geometry, Object, IsClosedBy, StaysInside, Effect, invoke, Up, is_free, IsRun, Turn}
use Rattle.confinement.specs.Names.{IsSound, Fits, World, annex_at, content_at, is_process, is_running_process}
use Rattle.confinement.specs.Names.{object_at, AreBy, IsKept, with_free, Some, Running}
use Rattle.std.specs.Prelude.{◌≡◌, ◌⊎◌, ◌&&◌, ◌||◌, ◌∷◌}
use Rattle.model.specs.declared.command.Command.TheVariants as command

-- the capability starts a trusted process
abbrev pub StartsOne : (ℕ → Bool) → Capability → Type 0
StartsOne trusted (Start p key) = IsTrue (trusted p)
StartsOne trusted _ = ⊥

-- the capability stays inside the set, or starts a trusted process
abbrev pub StaysBut : (ℕ → Bool) → (ℕ → Bool) → Capability → Type 0
StaysBut trusted inside c = StaysInside inside c ⊎ StartsOne trusted c

-- the set is closed, except that its members may start trusted processes
abbrev pub IsClosedBut : (ℕ → Bool) → List Object → (ℕ → Bool) → Type 0
IsClosedBut trusted os inside = IsClosedBy (StaysBut trusted inside) os inside

-- n is the root or annex of a trusted process: a message to the process changes these
abbrev pub IsInbox : (ℕ → Bool) → List Object → ℕ → Type 0
IsInbox trusted os n = (p : ℕ) × IsTrue (trusted p) × IsTrue (is_process os p) × ((n ≡ p) ⊎ (n ≡ annex_at os p))

-- the change from `os` to `us` is confined. The set with the free numbers stays closed. An object outside,
-- unless it is an inbox, keeps its owner and content; only capabilities in it to members may become void
pub record IsConfinedBut (trusted inside : ℕ → Bool) (os us : List Object) : Type 0 where
  pub closed : IsClosedBut trusted us (with_free os inside)
  pub kept : (n : ℕ) → with_free os inside n ≡ false → (IsInbox trusted os n → ⊥) →
      IsKept inside (object_at os n) (object_at us n)

-- if a set is closed but for trusted processes, an invocation by a running member is confined
abbrev pub InvocationIsConfinedBut : Type 0
InvocationIsConfinedBut = (g : Geometry) (w : World) (i : Invocation) (e : Effect) (trusted inside : ℕ → Bool) →
    IsSound g w → Fits (command.Invoke i) → IsTrue (is_running_process w.objects i.process) →
    IsClosedBut trusted w.objects inside → IsTrue (inside i.process) → invoke g w.objects i ≡ Some e →
    IsConfinedBut trusted inside w.objects e.objects

-- the authority bound with trusted processes. Take a set that is closed but for these. A run is confined if it has
-- only invocations, loads and stores by members, or by processes that members make
abbrev pub RunIsConfinedBut : Type 0
RunIsConfinedBut = (g : Geometry) (trusted inside : ℕ → Bool) (s t : Running) (turns : List Turn) →
    IsSound g s.now → IsClosedBut trusted s.now.objects inside → IsRun g (Up s) turns (Up t) →
    AreBy (with_free s.now.objects inside) turns → IsConfinedBut trusted inside s.now.objects t.now.objects

-- a stretch of a run: turns by members only, or by anyone, and the machine after them
pub record Stretch : Type 0 where
  pub by_members : Bool
  pub turns : List Turn
  pub last : Running

-- the members after a stretch: objects that members made join them, and freed ones leave
abbrev pub members_after : Running → (ℕ → Bool) → Stretch → ℕ → Bool
members_after s inside x n =
    (inside n || (x.by_members && is_free (content_at s.now.objects n))) && not (is_free (content_at x.last.now.objects n))

-- the turns of a stretch are by members; or they are by others, and leave the world sound and the set closed
abbrev pub IsStretch : Geometry → (ℕ → Bool) → Running → (ℕ → Bool) → Stretch → Type 0
IsStretch g trusted s inside x = IsRun g (Up s) x.turns (Up x.last) × elim x.by_members [
  | true ↦ AreBy (with_free s.now.objects inside) x.turns
  | false ↦ IsSound g x.last.now × IsClosedBut trusted x.last.now.objects (members_after s inside x)
]

-- each item is a stretch (`IsStretch`) that begins where the one before it ends
abbrev pub AreStretches : Geometry → (ℕ → Bool) → Running → (ℕ → Bool) → List Stretch → Type 0
AreStretches g trusted s inside [] = Unit {0}
AreStretches g trusted s inside (x ∷ xs) =
    IsStretch g trusted s inside x × AreStretches g trusted x.last (members_after s inside x) xs

-- each stretch by members is confined
abbrev pub AreConfinedBut : (ℕ → Bool) → Running → (ℕ → Bool) → List Stretch → Type 0
AreConfinedBut trusted s inside [] = Unit {0}
AreConfinedBut trusted s inside (x ∷ xs) =
    (IsTrue x.by_members → IsConfinedBut trusted inside s.now.objects x.last.now.objects)
    × AreConfinedBut trusted x.last (members_after s inside x) xs

-- if others leave the set closed, each stretch by members in a run is confined
abbrev pub TurnsAreConfinedBut : Type 0
TurnsAreConfinedBut = (g : Geometry) (trusted inside : ℕ → Bool) (s : Running) (xs : List Stretch) →
    IsSound g s.now → IsClosedBut trusted s.now.objects inside → AreStretches g trusted s inside xs →
    AreConfinedBut trusted s inside xs
