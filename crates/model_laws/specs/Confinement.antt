-- What processes can change if they have authority only over a set of numbers: the objects in the set, and free
-- numbers.
use Rattle.model_laws.specs.Names.{ℕ, Bool, true, false, None, Some, List, IsTrue, All, Capability, Command, Invocation}
use Rattle.model_laws.specs.Names.{Geometry, Line, Object, named, IsClosed, Effect, invoke, Up, is_free, without, IsRun}
use Rattle.model_laws.specs.Names.{Turn, IsSound, Fits, Says, World, content_at, object_at, is_running_process}
use Rattle.std.specs.Prelude.{◌≡◌, ◌||◌}
use Rattle.model.specs.Machine.{Running}
use Rattle.model.specs.declared.command.Command.TheVariants as command
use Rattle.model.specs.declared.line.Line.TheVariants as line

-- a capability that names a member of a set
abbrev pub NamesInside : (ℕ → Bool) → Capability → Type 0
NamesInside inside c = elim (named c) [ None ↦ ⊥ | Some n ↦ IsTrue (inside n) ]

-- an object keeps its owner and content, except that capabilities in it to members of the set may be void
abbrev pub IsKept : (ℕ → Bool) → Object → Object → Type 0
IsKept inside old new = (goes : Capability → Bool) × ((c : Capability) → goes c ≡ true → NamesInside inside c) ×
    (new ≡ without goes old)

-- a closed set that contains all free numbers
pub record Encloses (inside : ℕ → Bool) (os : List Object) : Type 0 where
  pub closed : IsClosed os inside
  pub free : (n : ℕ) → is_free (content_at os n) ≡ true → IsTrue (inside n)

-- each object outside the set is kept, and the set encloses the new objects us
pub record StaysWithin (inside : ℕ → Bool) (os us : List Object) : Type 0 where
  pub encloses : Encloses inside us
  pub kept : (n : ℕ) → inside n ≡ false → IsKept inside (object_at os n) (object_at us n)

-- the law: an invocation by a process of an enclosing set stays within the set
abbrev pub InvocationIsConfined : Type 0
InvocationIsConfined = (g : Geometry) (w : World) (i : Invocation) (e : Effect) (inside : ℕ → Bool) →
    IsSound g w → Fits (command.Invoke i) → IsTrue (is_running_process w.objects i.process) →
    Encloses inside w.objects →
    IsTrue (inside i.process) → invoke g w.objects i ≡ Some e → StaysWithin inside w.objects e.objects

-- a set with the free numbers added
abbrev pub with_free : List Object → (ℕ → Bool) → ℕ → Bool
with_free os inside n = inside n || is_free (content_at os n)

-- an invocation, load or store by a process of the set
abbrev pub IsBy : (ℕ → Bool) → Command → Type 0
IsBy inside (command.Invoke i) = IsTrue (inside i.process)
IsBy inside (command.Load p address) = IsTrue (inside p)
IsBy inside (command.Store p address value) = IsTrue (inside p)
IsBy inside _ = ⊥

-- a line that is such a command, or no command; turns with only such lines
abbrev pub IsLineBy : (ℕ → Bool) → Line → Type 0
IsLineBy inside line.Skip = Unit {0}
IsLineBy inside line.Bad = Unit {0}
IsLineBy inside (line.Command c) = IsBy inside c

abbrev pub AreBy : (ℕ → Bool) → List Turn → Type 0
AreBy inside turns = All (λ t. (l : Line) → Says t.line l → IsLineBy inside l) turns

-- The authority bound (EROS: confinement). Take any run of invocations, loads and stores by processes of a closed set,
-- and by those that they make of free numbers. Each object outside the set that wasn't free keeps its content and
-- owner, but its capabilities that name a member may become void.
abbrev pub RunIsConfined : Type 0
RunIsConfined = (g : Geometry) (inside : ℕ → Bool) (s t : Running) (turns : List Turn) →
    IsSound g s.now → IsClosed s.now.objects inside → IsRun g (Up s) turns (Up t) →
    AreBy (with_free s.now.objects inside) turns →
    (n : ℕ) → with_free s.now.objects inside n ≡ false →
    IsKept inside (object_at s.now.objects n) (object_at t.now.objects n)
