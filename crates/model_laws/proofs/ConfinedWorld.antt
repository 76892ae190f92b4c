-- The world with a confined process.
use Rattle.model_laws.proofs.Names.{ℕ, zero, suc, false, List, [], refl, sym, inl, inr, ⊎_elim, arith, All-from_recursion, IsTrue, slice_set, Access, Void}
use Rattle.model_laws.proofs.Names.{Node, Bank, Object, full, weak, StaysInside, all_slots, free, is_bank, is_free, zero_words, annex_at, content_at}
use Rattle.model_laws.proofs.Names.{is_process, owner_at, root_at, slot_at, with_content, with_slot, of_prime_bank, c0, confined, rows, ConfinedIsClosed}
use Rattle.model_laws.proofs.Names.{OutwardIsNotClosed, IsRow}
use Rattle.std.specs.Prelude.{All, replicate}
use Rattle.std.proofs.Common.{◌≡◌, ◌∷◌, ◌++◌, ◌∙◌}
use Rattle.model_laws.proofs.SoundWorlds.{Each, each_after, each_at, holds_set, holds_void}
use Rattle.model_laws.proofs.Rows.{IsRight, machine, rows_hold}
use Rattle.model.specs.declared.object.Content.TheVariants as content

-- a property of 3, 4 and 6 holds of each member of the confined set
members : (P : ℕ → Type 0) → P 3 → P 4 → P 6 → (n : ℕ) → IsTrue (confined n) → P n
members P root annex bank zero inside = cc
members P root annex bank (suc zero) inside = cc
members P root annex bank (suc (suc zero)) inside = cc
members P root annex bank (suc (suc (suc zero))) inside = root
members P root annex bank (suc (suc (suc (suc zero)))) inside = annex
members P root annex bank (suc (suc (suc (suc (suc zero))))) inside = cc
members P root annex bank (suc (suc (suc (suc (suc (suc zero)))))) inside = bank
members P root annex bank (suc (suc (suc (suc (suc (suc (suc n))))))) inside = let never : ⊥ = grind arith in absurd never

-- the prime bank owns all that isn't free
of_prime : (n : ℕ) → owner_at c0.objects n ≡ 0
unfolding c0
of_prime n =
    let P : ℕ → Object → Type 0 = λ k o. o.owner ≡ 0 in
    let page : List Object = of_prime_bank (content.Page (slice_set zero_words 0 1)) ∷ replicate 7 free in
    let later : Each P 7 (replicate 9 free ++ page) =
    each_after P 9 7 16 page (λ k. refl) refl (refl, each_after P 7 17 24 [] (λ k. refl) refl tt)
    in
    each_at P 0 c0.objects (refl, (refl, (refl, (refl, (refl, (refl, (refl, later))))))) (λ m. refl) n n (omega arith)

annex_inside : (i : ℕ) → StaysInside confined (slot_at c0.objects 4 i)
unfolding c0
annex_inside i =
    holds_set (StaysInside confined) (slice_set (all_slots Void) 1 (Node 5 weak)) 2 (Bank 6) Void (inr refl)
    (holds_set (StaysInside confined) (all_slots Void) 1 (Node 5 weak) Void (inl refl) (holds_void (StaysInside confined) (inl tt))) i

pub confined_closed : ConfinedIsClosed
unfolding c0
confined_closed = record {
  annexes = members (λ p. IsTrue (is_process c0.objects p) → IsTrue (confined (annex_at c0.objects p))) (λ is. refl) (λ is. cc) (λ is. cc);
  owned = λ b n inside. members
      (λ b. (n : ℕ) → IsTrue (is_bank (content_at c0.objects b)) → is_free (content_at c0.objects n) ≡ false → owner_at c0.objects n ≡ b →
      IsTrue (confined n))
      (λ n bank held owner. cc) (λ n bank held owner. cc) (λ n bank held owner. let never : 0 ≡ 6 = sym (of_prime n) ∙ owner in cc) b inside
      n;
  slots = λ n i inside. members (λ n. (i : ℕ) → StaysInside confined (slot_at c0.objects n i)) (λ i. inl tt) annex_inside (λ i. inl tt) n
      inside i;
  spaces = members (λ p. StaysInside confined (root_at c0.objects p).space) (inl tt) (inl tt) (inl tt);
}

-- a capability to node 5 that isn't weak doesn't stay inside the set (`StaysInside`)
outward : (a : Access) → (a.0 ≡ 3 → ⊥) → StaysInside confined (Node 5 a) → ⊥
outward a strong stays = ⊎_elim strong (λ named. cc) stays

pub outward_not_closed : OutwardIsNotClosed
unfolding c0 with_slot with_content all_slots
outward_not_closed = (
  λ closed. outward full (λ is. cc) (closed.slots 4 1 refl),
  λ closed. outward (record { 0 = 1 }) (λ is. cc) (closed.slots 4 1 refl),
)

pub rows_right : All IsRow rows
unfolding machine c0 rows
rows_right = rows_hold rows (All-from_recursion IsRight rows (refl, (refl, (refl, tt))))
