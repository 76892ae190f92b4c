-- Numbers that a search found, level by level: n is at level k if k steps lead to it. No public clause uses this.
use Rattle.reach.specs.Names.{ℕ, Bool, false, Option, None, Some, List, length, slice_index_or, All, Contains}
use Rattle.reach.specs.Names.{Capability, Void, Object, is_free, named, content_at, owner_at}
use Rattle.std.specs.Prelude.{◌≡◌, ◌⊎◌, ◌==◌, ◌+◌, ◌<◌, ◌≤◌}
use Rattle.reach.specs.declared.levels.Found.{Found}
use Rattle.reach.specs.declared.levels.Levels.{Levels}
use Rattle.reach.specs.declared.step.Step.{Step}
use Rattle.reach.specs.declared.step.Way.{Way}
use Rattle.reach.specs.declared.step.Way.TheVariants as way
use Rattle.reach.specs.Links.{Links}
use Rattle.reach.specs.Chain.{Conveys, IsStep}
use Rattle.reach.specs.Missing.{missing}

abbrev pub found_at : Levels → ℕ → Option Found
found_at l n = slice_index_or l.found.items n None

abbrev pub IsFound : Levels → ℕ → Type 0
IsFound l n = (f : Found) × (found_at l n ≡ Some f)

-- n was found at level k or below
abbrev pub IsFoundIn : Levels → ℕ → ℕ → Type 0
IsFoundIn l n k = (f : Found) × (found_at l n ≡ Some f) × (f.level ≤ k)

-- n was found at level k
abbrev pub IsAt : Levels → ℕ → ℕ → Type 0
IsAt l n k = (f : Found) × (found_at l n ≡ Some f) × (f.level ≡ k)

-- whether this is at level k
abbrev pub has_level : Option Found → ℕ → Bool
has_level None k = false
has_level (Some f) k = f.level == k

-- the search began with n: its level is 0
pub record IsFirst (n : ℕ) (f : Found) : Type 0 where
  pub level : f.level ≡ 0
  pub none : f.step ≡ None

-- n was found at this level, by a step with the property `By`
pub record IsFoundBy (By : Step → Type 0) (level n : ℕ) (f : Found) : Type 0 where
  pub at : f.level ≡ level
  pub step : Step
  pub is : f.step ≡ Some step
  pub to : step.to ≡ n
  pub by : By step

-- `number` was added at level 0, unless it was found before
pub record Begins (number : ℕ) (old new : Levels) : Type 0 where
  pub count : length new.found.items ≡ length old.found.items
  pub kept : (n : ℕ) (f : Found) → found_at old n ≡ Some f → found_at new n ≡ Some f
  pub each : (n : ℕ) (f : Found) → found_at new n ≡ Some f → (found_at old n ≡ Some f) ⊎ ((n ≡ number) × IsFirst n f)
  pub inside : IsFound new number
  pub greatest : new.greatest ≡ old.greatest
  pub work : missing new.found.items ≤ missing old.found.items

-- every number that a step with the property `By` leads to was added at this level, unless it was found before
pub record FindsBy (By : Step → Type 0) (level : ℕ) (old new : Levels) : Type 0 where
  pub count : length new.found.items ≡ length old.found.items
  pub kept : (n : ℕ) (f : Found) → found_at old n ≡ Some f → found_at new n ≡ Some f
  pub each : (n : ℕ) (f : Found) → found_at new n ≡ Some f → (found_at old n ≡ Some f) ⊎ IsFoundBy By level n f
  pub all : (s : Step) → By s → IsFound new s.to
  pub later : old.greatest ≤ new.greatest
  pub within : (n : ℕ) (f : Found) → found_at new n ≡ Some f → (found_at old n ≡ Some f) ⊎ (f.level ≤ new.greatest)
  pub work : missing new.found.items + new.greatest ≤ missing old.found.items + old.greatest

-- the capability names one of the first `count` numbers, or nothing
abbrev pub NamesWithin : ℕ → Capability → Type 0
NamesWithin count c = elim (named c) [ None ↦ Unit {0} | Some n ↦ n < count ]

-- s is this step
abbrev pub IsTheStep : Step → Step → Type 0
IsTheStep step s = (s.from ≡ step.from) × (s.way ≡ step.way) × (s.to ≡ step.to)

-- s goes from `from` by this capability
abbrev pub IsBy : Links → ℕ → Way → Capability → Step → Type 0
IsBy follows from by c s = (s.from ≡ from) × (s.way ≡ by) × Conveys follows c s.to

-- s goes by one of the first `count` capabilities in these slots
abbrev pub IsHeldIn : Links → List Capability → ℕ → ℕ → Step → Type 0
IsHeldIn follows slots count from s = (i : ℕ) × (i < count)
    × IsBy follows from (way.Slot i (slice_index_or slots i Void))
    (slice_index_or slots i Void) s

-- s goes from a bank to an object that it owns, whose number is below `count`
abbrev pub IsOwnedBelow : List Object → ℕ → ℕ → Step → Type 0
IsOwnedBelow os count bank s = (s.from ≡ bank) × (s.way ≡ way.Owner) × (s.to < count) ×
    (is_free (content_at os s.to) ≡ false) × (owner_at os s.to ≡ bank)

-- s goes from number n
abbrev pub IsFrom : List Object → Links → ℕ → Step → Type 0
IsFrom os follows n s = (s.from ≡ n) × IsStep os follows s

-- s is a step of the search from a number found at this level
abbrev pub IsFromLevel : List Object → Links → Levels → ℕ → ℕ → Step → Type 0
IsFromLevel os follows l level count s = IsAt l s.from level × (s.from < count) × IsStep os follows s

-- n was found by a step from a number of the level before
pub record IsAfter (os : List Object) (follows : Links) (l : Levels) (n : ℕ) (f : Found) : Type 0 where
  pub step : Step
  pub is : f.step ≡ Some step
  pub to : step.to ≡ n
  pub step_is : IsStep os follows step
  pub before : Found
  pub from : found_at l step.from ≡ Some before
  pub level : f.level ≡ before.level + 1

-- the starts were found, and all numbers below this level were followed
pub record IsSearched (os : List Object) (follows : Links) (starts : List ℕ) (level : ℕ) (l : Levels) : Type 0 where
  pub count : length l.found.items ≡ length os
  pub begins : All (λ p. IsFoundIn l p 0) starts
  pub linked : (n : ℕ) (f : Found) → found_at l n ≡ Some f →
      (IsFirst n f × Contains starts n) ⊎ IsAfter os follows l n f
  pub continues : (n : ℕ) (f : Found) → found_at l n ≡ Some f → f.level < level → (s : Step) → IsFrom os follows n s →
      IsFoundIn l s.to (f.level + 1)
  pub deepest : (n : ℕ) (f : Found) → found_at l n ≡ Some f → f.level ≤ level
  pub within : (n : ℕ) (f : Found) → found_at l n ≡ Some f → f.level ≤ l.greatest
  pub few : missing l.found.items + l.greatest ≤ length os
