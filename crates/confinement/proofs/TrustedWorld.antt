-- The worked world with a trusted process.
use Rattle.confinement.proofs.Names.{ℕ, zero, suc, false, refl, inl, inr, ⊎_elim, arith, All-from_recursion, IsTrue, slice_set, Void, Node}
use Rattle.confinement.proofs.Names.{Start, full, all_slots, is_bank, is_free, annex_at, content_at, is_process, owner_at, root_at}
use Rattle.confinement.proofs.Names.{slot_at, StaysBut, client, store, d0, rows, ClientIsClosedBut, IsRow, All, holds_set, holds_void}
use Rattle.confinement.proofs.Names.{IsRight, machine, rows_hold}
use Rattle.std.proofs.Common.{◌≡◌}

-- if P holds of 1, 2 and 7, it holds of each member
members : (P : ℕ → Type 0) → P 1 → P 2 → P 7 → (n : ℕ) → IsTrue (client n) → P n
members P root annex node zero inside = cc
members P root annex node (suc zero) inside = root
members P root annex node (suc (suc zero)) inside = annex
members P root annex node (suc (suc (suc zero))) inside = cc
members P root annex node (suc (suc (suc (suc zero)))) inside = cc
members P root annex node (suc (suc (suc (suc (suc zero))))) inside = cc
members P root annex node (suc (suc (suc (suc (suc (suc zero)))))) inside = cc
members P root annex node (suc (suc (suc (suc (suc (suc (suc zero))))))) inside = node
members P root annex node (suc (suc (suc (suc (suc (suc (suc (suc n)))))))) inside = let never : ⊥ = grind arith in absurd never

annex_inside : (i : ℕ) → StaysBut store client (slot_at d0.objects 2 i)
unfolding d0
annex_inside i =
    holds_set (StaysBut store client) (slice_set (all_slots Void) 1 (Start 3 7)) 2 (Node 7 full) Void (inl (inr refl))
    (holds_set (StaysBut store client) (all_slots Void) 1 (Start 3 7) Void (inr refl) (holds_void (StaysBut store client) (inl (inl tt)))) i

node_inside : (i : ℕ) → StaysBut store client (slot_at d0.objects 7 i)
unfolding d0
node_inside i = holds_void (StaysBut store client) (inl (inl tt)) i

pub client_closed : ClientIsClosedBut
unfolding d0 all_slots
client_closed = (
  record {
    annexes = members (λ p. IsTrue (is_process d0.objects p) → IsTrue (client (annex_at d0.objects p))) (λ is. refl) (λ is. cc) (λ is. cc);
    owned = λ b n inside. members
        (λ b. (n : ℕ) → IsTrue (is_bank (content_at d0.objects b)) → is_free (content_at d0.objects n) ≡ false → owner_at d0.objects n ≡ b →
        IsTrue (client n))
        (λ n bank held owner. cc) (λ n bank held owner. cc) (λ n bank held owner. cc) b inside n;
    slots = λ n i inside. members (λ n. (i : ℕ) → StaysBut store client (slot_at d0.objects n i)) (λ i. inl (inl tt)) annex_inside
        node_inside n inside i;
    spaces = members (λ p. StaysBut store client (root_at d0.objects p).space) (inl (inl tt)) (inl (inl tt)) (inl (inl tt));
  },
  λ closed. ⊎_elim (λ weak. weak) (λ named. cc) (closed.slots 2 1 refl),
)

pub rows_right : All IsRow rows
unfolding machine d0 rows
rows_right = rows_hold rows (All-from_recursion IsRight rows (refl, (refl, (refl, (refl, tt)))))
