-- Chains of steps. By a step one object has authority over another.
use Rattle.reach.specs.Names.{ℕ, StartsOne, false, Option, None, Some, List, [], Vec, length, slice_index_or, IsTrue}
use Rattle.reach.specs.Names.{Contains, Global, Capability, Void, Content, Object, IsWeak, named, is_bank, is_free}
use Rattle.reach.specs.Names.{is_root, root_in, slots_in, content_at, owner_at}
use Rattle.std.specs.Prelude.{◌≡◌, ◌≤◌, ◌∷◌}
use Rattle.model.specs.declared.object.Content.TheVariants as content
use Rattle.reach.specs.declared.authority.Purpose.{Purpose}
use Rattle.reach.specs.declared.authority.Purpose.TheVariants as purpose
use Rattle.reach.specs.declared.step.Step.{Step}
use Rattle.reach.specs.Links.{Links}
use Rattle.reach.specs.declared.step.Way.{Way}
use Rattle.reach.specs.declared.step.Way.TheVariants as way

-- a search follows this capability: to read, any; to change, any that isn't weak
abbrev pub IsFollowed : Purpose → Capability → Type 0
IsFollowed purpose.Change c = IsWeak c → ⊥
IsFollowed purpose.Read c = Unit {0}

-- the search follows this capability, which names object n and is no start capability of a trusted process
abbrev pub Conveys : Links → Capability → ℕ → Type 0
Conveys follows c n = IsFollowed follows.purpose c × (StartsOne follows.trusted c → ⊥) × (named c ≡ Some n)

-- the capabilities that an object holds in slots; a process holds its annex's registers
abbrev pub held_by : List Object → Content Capability → List Capability
held_by os (content.Root root) = slots_in (content_at os root.annex)
held_by os other = slots_in other

-- object n, with content x, has authority over object m in this way
abbrev pub IsWay : List Object → Links → ℕ → Content Capability → Way → ℕ → Type 0
IsWay os follows n x way.Annex m = IsTrue (is_root x) × ((root_in x).annex ≡ m)
IsWay os follows n x way.Owner m = IsTrue (is_bank x) × (is_free (content_at os m) ≡ false) × (owner_at os m ≡ n)
IsWay os follows n x (way.Space c) m = ((root_in x).space ≡ c) × Conveys follows c m
IsWay os follows n x (way.Slot i c) m = (slice_index_or (held_by os x) i Void ≡ c) × Conveys follows c m

-- a step: its first object has authority over its second, in the step's way
abbrev pub IsStep : List Object → Links → Step → Type 0
IsStep os follows s = IsWay os follows s.from (content_at os s.from) s.way s.to

-- the steps lead from object n to object m
abbrev pub IsPath : List Object → Links → ℕ → List Step → ℕ → Type 0
IsPath os follows n [] m = n ≡ m
IsPath os follows n (s ∷ ss) m = (s.from ≡ n) × IsStep os follows s × IsPath os follows s.to ss m

-- the steps lead from one of `starts` to object o
abbrev pub IsChain : List Object → Links → List ℕ → List Step → ℕ → Type 0
IsChain os follows starts steps o = (p : ℕ) × Contains starts p × IsPath os follows p steps o

-- the chain leads from `starts` to object o, and no chain there has fewer steps
pub record IsShortest (os : List Object) (follows : Links) (starts : List ℕ) (steps : List Step) (o : ℕ) : Type 0 where
  pub chain : IsChain os follows starts steps o
  pub least : (others : List Step) → IsChain os follows starts others o → length steps ≤ length others

-- the result is a shortest chain, or `None` if there is no chain
abbrev pub IsShortestIfAny : List Object → Links → List ℕ → ℕ → Option (Vec Step Global) → Type 0
IsShortestIfAny os follows starts o None = (steps : List Step) → IsChain os follows starts steps o → ⊥
IsShortestIfAny os follows starts o (Some steps) = IsShortest os follows starts steps.items o
