-- The steps from an object, by its content.
use Rattle.reach.proofs.Names.{common_steps, nat_tests, ℕ, zero, suc, List, [], length, inl, inr, refl, sym, ap, subst, arith, Capability, Void, Content}
use Rattle.reach.proofs.Names.{Object, Root, slots_in, content_at, Levels, Step, Way, Conveys, IsWay, FindsBy, IsBy, IsFrom, IsHeldIn, IsOwnedBelow, IsTheStep}
use Rattle.reach.proofs.Names.{slice_index_or, named, None, Some, Links}
use Rattle.std.proofs.Common.{◌≡◌, ◌⊎◌, ◌<◌, ◌∷◌, ◌∙◌}
use Rattle.model.specs.declared.object.Content.TheVariants as content
use Rattle.reach.specs.declared.step.Way.TheVariants as way
use Rattle.reach.proofs.Finding.{finds_both, finds_same}
use Rattle.reach.proofs.Members.{known}

-- the parameters: a number with its content, and a step
module _ (os : List Object) (follows : Links) (n : ℕ) (x : Content Capability) (is : content_at os n ≡ x) (s : Step) where
  pub way_from : IsFrom os follows n s → IsWay os follows n x s.way s.to
  way_from from = subst (λ (y : Content Capability). IsWay os follows n y s.way s.to) is
      (subst (λ (k : ℕ). IsWay os follows k (content_at os k) s.way s.to) from.0 from.1)

  pub from_way : s.from ≡ n → IsWay os follows n x s.way s.to → IsFrom os follows n s
  from_way same by = grind (arith, nat_tests)

-- if a slot of a list conveys an object, its index is within the list
conveys_within : (follows : Links) (slots : List Capability) (i m : ℕ) → Conveys follows (slice_index_or slots i Void) m → i < length slots
conveys_within follows [] i m conveys = let none : None ≡ Some m = conveys.2 in absurd (cc)
conveys_within follows (c ∷ cs) zero m conveys = omega arith
conveys_within follows (c ∷ cs) (suc i) m conveys = let later : i < length cs = conveys_within follows cs i m conveys in
    omega (arith, later)

-- void conveys nothing
void_conveys : (follows : Links) (c : Capability) (m : ℕ) → Void ≡ c → Conveys follows c m → ⊥
void_conveys follows c m is conveys = let none : None ≡ Some m = subst (λ (d : Capability). named d ≡ Some m) (sym is) conveys.2 in
    absurd (cc)

-- the parameters: a capability in a list that conveys an object
module _ (follows : Links) (slots : List Capability) (i : ℕ) (c : Capability) (m : ℕ) (is : slice_index_or slots i Void ≡ c)
    (conveys : Conveys follows c m) where
  pub held_way : (from : ℕ) (s : Step) → s.from ≡ from → s.way ≡ way.Slot i c → s.to ≡ m → IsHeldIn follows slots (length slots) from s
  held_way from s same by to =
      let conveys_it = subst (λ (d : Capability). Conveys follows d m) (sym is) conveys in (
        i,
        conveys_within follows slots i m conveys_it,
        (same, by ∙ ap (way.Slot i) (sym is), subst (λ (k : ℕ). Conveys follows (slice_index_or slots i Void) k) (sym to) conveys_it),
      )

-- the steps from an object with slots
slots_held : (os : List Object) (follows : Links) (n : ℕ) (slots : List Capability) (w : Way) (m : ℕ) →
    IsWay os follows n (content.Node slots) w m → (s : Step) → s.from ≡ n → s.way ≡ w → s.to ≡ m → IsHeldIn follows slots (length slots) n s
slots_held os follows n slots (way.Space c) m by s same is to = absurd (void_conveys follows c m by.0 by.1)
slots_held os follows n slots (way.Slot i c) m by s same is to = held_way follows slots i c m by.0 by.1 n s same is to
slots_held os follows n slots w m by s same is to = let wrong = by.0 in absurd (cc)

registers_held : (os : List Object) (follows : Links) (n : ℕ) (slots : List Capability) (w : Way) (m : ℕ) →
    IsWay os follows n (content.Annex slots) w m → (s : Step) → s.from ≡ n → s.way ≡ w → s.to ≡ m →
    IsHeldIn follows slots (length slots) n s
registers_held os follows n slots (way.Space c) m by s same is to = absurd (void_conveys follows c m by.0 by.1)
registers_held os follows n slots (way.Slot i c) m by s same is to = held_way follows slots i c m by.0 by.1 n s same is to
registers_held os follows n slots w m by s same is to = let wrong = by.0 in absurd (cc)

-- the steps from a bank
bank_owned : (os : List Object) (follows : Links) (n limit : ℕ) (w : Way) (m : ℕ) → IsWay os follows n (content.Bank limit) w m →
    (s : Step) → s.from ≡ n → s.way ≡ w → s.to ≡ m → IsOwnedBelow os (length os) n s
bank_owned os follows n limit w m by s same is to = grind (arith, common_steps, known)

-- the steps from a process: to its annex, its space, and what its registers hold
abbrev pub annex_step : ℕ → Root Capability → Step
annex_step n root = record { from = n; way = way.Annex; to = root.annex }

abbrev IsLater : Links → ℕ → Root Capability → List Capability → Step → Type 0
IsLater follows n root registers s = IsBy follows n (way.Space root.space) root.space s ⊎ IsHeldIn follows registers (length registers) n s

abbrev IsOfProcess : Links → ℕ → Root Capability → List Capability → Step → Type 0
IsOfProcess follows n root registers s = IsTheStep (annex_step n root) s ⊎ IsLater follows n root registers s

process_ways : (os : List Object) (follows : Links) (n : ℕ) (root : Root Capability) (w : Way) (m : ℕ) →
    IsWay os follows n (content.Root root) w m → (s : Step) → s.from ≡ n → s.way ≡ w → s.to ≡ m
    → IsOfProcess follows n root (slots_in (content_at os root.annex)) s
process_ways os follows n root w m by s same is to = grind (arith, common_steps, held_way)

-- all that an object has authority over was found
module _ (os : List Object) (follows : Links) (n level : ℕ) (a b : Levels) where
  pub finds_of_slots : (slots : List Capability) → content_at os n ≡ content.Node slots →
      FindsBy (IsHeldIn follows slots (length slots) n) level a b → FindsBy (IsFrom os follows n) level a b
  finds_of_slots slots is = finds_same (IsHeldIn follows slots (length slots) n) (IsFrom os follows n) level a b
      (λ s held. from_way os follows n (content.Node slots) is s held.2.0 (search arith))
      (λ s from. slots_held os follows n slots s.way s.to (way_from os follows n (content.Node slots) is s from) s from.0 refl refl)

  pub finds_of_registers : (slots : List Capability) → content_at os n ≡ content.Annex slots →
      FindsBy (IsHeldIn follows slots (length slots) n) level a b → FindsBy (IsFrom os follows n) level a b
  finds_of_registers slots is = finds_same (IsHeldIn follows slots (length slots) n) (IsFrom os follows n) level a b
      (λ s held. from_way os follows n (content.Annex slots) is s held.2.0 (search arith))
      (λ s from. registers_held os follows n slots s.way s.to (way_from os follows n (content.Annex slots) is s from) s from.0 refl refl)

  pub finds_of_bank : (limit : ℕ) → content_at os n ≡ content.Bank limit → FindsBy (IsOwnedBelow os (length os) n) level a b →
      FindsBy (IsFrom os follows n) level a b
  finds_of_bank limit is = finds_same (IsOwnedBelow os (length os) n) (IsFrom os follows n) level a b
      (λ s owned. from_way os follows n (content.Bank limit) is s owned.0 (search arith))
      (λ s from. bank_owned os follows n limit s.way s.to (way_from os follows n (content.Bank limit) is s from) s from.0 refl refl)

  pub finds_of_process : (root : Root Capability) (registers : List Capability) (c d : Levels) → content_at os n ≡ content.Root root →
      slots_in (content_at os root.annex) ≡ registers
      → FindsBy (IsTheStep (annex_step n root)) level a c → FindsBy (IsBy follows n (way.Space root.space) root.space) level c d →
      FindsBy (IsHeldIn follows registers (length registers) n) level d b
      → FindsBy (IsFrom os follows n) level a b
  finds_of_process root registers c d is same first second third =
      finds_same (IsOfProcess follows n root registers) (IsFrom os follows n) level a b process_from from_process
      (finds_both (IsTheStep (annex_step n root)) (IsLater follows n root registers) (IsOfProcess follows n root registers) level a c b
      (λ s by. inl by) (λ s by. inr by)
      (λ s by. by) first
      (finds_both (IsBy follows n (way.Space root.space) root.space) (IsHeldIn follows registers (length registers) n)
      (IsLater follows n root registers) level c d b (λ s by. inl by)
      (λ s by. inr by) (λ s by. by) second third))
    where
      from_process : (s : Step) → IsFrom os follows n s → IsOfProcess follows n root registers s
      from_process s from = subst (λ (l : List Capability). IsOfProcess follows n root l s) same
          (process_ways os follows n root s.way s.to (way_from os follows n (content.Root root) is s from) s from.0 refl refl)

      process_from : (s : Step) → IsOfProcess follows n root registers s → IsFrom os follows n s
      process_from s by = grind (arith, nat_tests, from_way)
