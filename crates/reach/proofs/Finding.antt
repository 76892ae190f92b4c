-- Finding numbers by steps, level by level.
use Rattle.reach.proofs.Names.{nat_tests, ℕ, max, zero, suc, true, false, is_some, Option, None, Some, List, [], length, length-set, slice_set, inl, inr}
use Rattle.reach.proofs.Names.{⊎_elim, refl, sym, ap, arith, get_or-set_same, get_or-set_other, same_Some, Capability, Void, Object, is_free, content_at}
use Rattle.reach.proofs.Names.{owner_at, Found, Levels, Step, Way, Conveys, Begins, FindsBy, IsBy, IsFoundBy, IsHeldIn, IsOwnedBelow, IsTheStep, found_at}
use Rattle.reach.proofs.Names.{missing, slice_index_or, Links}
use Rattle.std.proofs.Common.{◌≡◌, ◌≢◌, ◌⊎◌, ◌+◌, ◌<◌, ◌≤◌, ◌∷◌, ◌∙◌}
use Rattle.reach.specs.declared.step.Way.TheVariants as way

-- the count of missing numbers is at most that of all numbers
pub missing_most : {X : Type 0} (xs : List (Option X)) → missing xs ≤ length xs
missing_most [] = omega arith
missing_most (None ∷ xs) = let rest : missing xs ≤ length xs = missing_most xs in omega (arith, rest)
missing_most (Some x ∷ xs) = let rest : missing xs ≤ length xs = missing_most xs in omega (arith, rest)

-- if one more number is found, the count of missing numbers falls by one
pub missing_fewer : {X : Type 0} (xs : List (Option X)) (n : ℕ) (x : X) → n < length xs → slice_index_or xs n None ≡ None →
    missing (slice_set xs n (Some x)) + 1 ≡ missing xs
missing_fewer [] n x lt none = absurd (omega (arith, lt))
missing_fewer (None ∷ xs) zero x lt none = omega arith
missing_fewer (Some y ∷ xs) zero x lt none = absurd (cc)
missing_fewer (None ∷ xs) (suc n) x lt none = grind (arith, nat_tests, missing_fewer xs n x (omega (arith, lt)) none)
missing_fewer (Some y ∷ xs) (suc n) x lt none = missing_fewer xs n x (omega (arith, lt)) none

pub some_of : {X : Type 0} (o : Option X) → is_some o ≡ true → (x : X) × (o ≡ Some x)
some_of {X} o is = grind (arith, nat_tests)

-- the parameters: a number that wasn't found before is found now
module _ (old new : Levels) (number : ℕ) (f : Found) (none : found_at old number ≡ None) (lt : number < length old.found.items)
    (set : new.found.items ≡ slice_set old.found.items number (Some f)) where
  found_here : found_at new number ≡ Some f
  found_here = ap (λ (l : List (Option Found)). slice_index_or l number None) set ∙ get_or-set_same old.found.items number (Some f) None lt

  found_there : (n : ℕ) → n ≢ number → found_at new n ≡ found_at old n
  found_there n other = ap (λ (l : List (Option Found)). slice_index_or l n None) set
      ∙ get_or-set_other old.found.items number n (Some f) None other

  found_count : length new.found.items ≡ length old.found.items
  found_count = ap (λ (l : List (Option Found)). length l) set ∙ length-set old.found.items number (Some f)

  found_kept : (n : ℕ) (g : Found) → found_at old n ≡ Some g → found_at new n ≡ Some g
  found_kept n g is = found_there n (λ here. let both : Some g ≡ None = sym is ∙ ap (found_at old) here ∙ none in absurd (cc)) ∙ is

  found_each : (n : ℕ) (g : Found) → found_at new n ≡ Some g → (found_at old n ≡ Some g) ⊎ ((n ≡ number) × (g ≡ f))
  found_each n g is = grind (arith, nat_tests, found_here, found_there)

  found_work : missing new.found.items + 1 ≡ missing old.found.items
  found_work = ap (λ (l : List (Option Found)). missing l + 1) set ∙ missing_fewer old.found.items number f lt none

  pub begun : f.level ≡ 0 → f.step ≡ None → new.greatest ≡ old.greatest → Begins number old new
  begun level step same = grind (arith, nat_tests, found_count, found_kept, found_each, found_here, found_work)

  pub added : (step : Step) (level : ℕ) → step.to ≡ number → f.level ≡ level → f.step ≡ Some step → level ≤ old.greatest + 1 →
      new.greatest ≡ max old.greatest level → FindsBy (IsTheStep step) level old new
  added step level to at is le same = record {
    count = found_count;
    kept = found_kept;
    each = λ n g now. grind (arith, nat_tests, found_each);
    all = λ s by. (f, ap (found_at new) (by.2 ∙ to) ∙ found_here);
    later = omega (arith, same);
    within = λ n g now. grind (arith, nat_tests, found_each);
    work = omega (arith, found_work, same, le);
  }

-- a number that was found before isn't found again
pub begun_before : (number : ℕ) (f : Found) (l : Levels) → found_at l number ≡ Some f → Begins number l l
begun_before number f l is = grind (arith, nat_tests)

pub added_before : (step : Step) (level : ℕ) (f : Found) (l : Levels) → found_at l step.to ≡ Some f → FindsBy (IsTheStep step) level l l
added_before step level f l is = record {
  count = refl;
  kept = λ n g now. now;
  each = λ n g now. inl now;
  all = λ s by. (f, ap (found_at l) by.2 ∙ is);
  later = omega arith;
  within = λ n g now. inl now;
  work = omega arith;
}

-- if there are no steps, nothing is found
pub finds_none : (By : Step → Type 0) (level : ℕ) (l : Levels) → ((s : Step) → By s → ⊥) → FindsBy By level l l
finds_none By level l none = grind (arith, nat_tests)

found_more : (P Q : Step → Type 0) (level n : ℕ) (f : Found) → ((s : Step) → P s → Q s) → IsFoundBy P level n f → IsFoundBy Q level n f
found_more P Q level n f more found = record {
  at = found.at;
  step = found.step;
  is = found.is;
  to = found.to;
  by = more found.step found.by;
}

-- if P and Q hold of the same steps, they find the same numbers
pub finds_same : (P Q : Step → Type 0) (level : ℕ) (a b : Levels) → ((s : Step) → P s → Q s) → ((s : Step) → Q s → P s) →
    FindsBy P level a b → FindsBy Q level a b
finds_same P Q level a b there back finds = record {
  count = finds.count;
  kept = finds.kept;
  each = λ n f is. ⊎_elim (λ before. inl before) (λ now. inr (found_more P Q level n f there now)) (finds.each n f is);
  all = λ s by. finds.all s (back s by);
  later = finds.later;
  within = finds.within;
  work = finds.work;
}

-- following some steps and then the others follows all of them
pub finds_both : (P Q R : Step → Type 0) (level : ℕ) (a b c : Levels) → ((s : Step) → P s → R s) → ((s : Step) → Q s → R s) →
    ((s : Step) → R s → P s ⊎ Q s) → FindsBy P level a b → FindsBy Q level b c → FindsBy R level a c
finds_both P Q R level a b c from_first from_next either first next = record {
  count = next.count ∙ first.count;
  kept = λ n f is. next.kept n f (first.kept n f is);
  each = λ n f is. ⊎_elim (λ middle. ⊎_elim (λ before. inl before) (λ now. inr (found_more _ _ _ _ _ from_first now))
      (first.each n f middle))
      (λ now. inr (found_more _ _ _ _ _ from_next now)) (next.each n f is);
  all = λ s by. ⊎_elim (λ p. let found = first.all s p in (found.0, next.kept s.to found.0 found.1)) (λ q. next.all s q) (either s by);
  later = omega (arith, first.later, next.later);
  within = λ n f is. grind (arith, nat_tests);
  work = omega (arith, first.work, next.work);
}

-- following a capability finds the object that it conveys
pub finds_by : (follows : Links) (from : ℕ) (by : Way) (c : Capability) (to level : ℕ) (a b : Levels) → Conveys follows c to →
    FindsBy (IsTheStep (record { from = from; way = by; to = to })) level a b → FindsBy (IsBy follows from by c) level a b
finds_by follows from by c to level a b conveys = finds_same (IsTheStep (record { from = from; way = by; to = to }))
    (IsBy follows from by c) level a b
    (λ s is. (is.0, is.1, rw is.2 conveys)) (λ s is. (is.0, is.1, same_Some s.to to (sym is.2.2 ∙ conveys.2)))

-- following the first i capabilities and then the next follows the first i + 1
pub held_next : (follows : Links) (slots : List Capability) (i from level : ℕ) (a b c : Levels) →
    FindsBy (IsHeldIn follows slots i from) level a b → FindsBy (IsBy follows from (way.Slot i (slice_index_or slots i Void))
    (slice_index_or slots i Void)) level b c → FindsBy (IsHeldIn follows slots (i + 1) from) level a c
held_next follows slots i from level a b c first next = finds_both (IsHeldIn follows slots i from)
    (IsBy follows from (way.Slot i (slice_index_or slots i Void)) (slice_index_or slots i Void)) (IsHeldIn follows slots (i + 1) from) level
    a b c
    (λ s held. (held.0, omega (arith, held.1), held.2)) (λ s by. (i, omega arith, by))
    grind (arith, nat_tests) first next

-- following the first i numbers that a bank may own and then the next follows the first i + 1
pub owned_next_step : (os : List Object) (i bank level : ℕ) (step : Step) (a b c : Levels) → step.from ≡ bank → step.way ≡ way.Owner →
    step.to ≡ i → is_free (content_at os i) ≡ false → owner_at os i ≡ bank → FindsBy (IsOwnedBelow os i bank) level a b →
    FindsBy (IsTheStep step) level b c → FindsBy (IsOwnedBelow os (i + 1) bank) level a c
owned_next_step os i bank level step a b c from by to free owner first next = finds_both (IsOwnedBelow os i bank) (IsTheStep step)
    (IsOwnedBelow os (i + 1) bank) level a b c
    (λ s owned. (owned.0, owned.1, omega (arith, owned.2), owned.3, owned.4))
    (λ s is. let here : s.to ≡ i = is.2 ∙ to in (
      is.0 ∙ from,
      is.1 ∙ by,
      omega (arith, here),
      ap (λ (n : ℕ). is_free (content_at os n)) here ∙ free,
      ap (λ (n : ℕ). owner_at os n) here
          ∙ owner,
    ))
    grind (arith, nat_tests) first next

pub owned_skip : (os : List Object) (i bank level : ℕ) (a b : Levels) → (is_free (content_at os i) ≡ false → owner_at os i ≡ bank → ⊥)
    → FindsBy (IsOwnedBelow os i bank) level a b → FindsBy (IsOwnedBelow os (i + 1) bank) level a b
owned_skip os i bank level a b other = finds_same (IsOwnedBelow os i bank) (IsOwnedBelow os (i + 1) bank) level a b
    (λ s owned. (owned.0, owned.1, omega (arith, owned.2), owned.3, owned.4))
    grind (arith, nat_tests)
