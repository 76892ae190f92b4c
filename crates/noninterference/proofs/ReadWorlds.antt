-- The worked worlds, which differ outside a set.
use Rattle.noninterference.proofs.Names.{ℕ, zero, suc, false, refl, inl, inr, arith, All-from_recursion, IsTrue, slice_index_or, slice_set, Void}
use Rattle.noninterference.proofs.Names.{Capability, Node, Bank, Start, weak, all_slots, is_bank, is_free, annex_at, content_at, is_process, owner_at}
use Rattle.noninterference.proofs.Names.{root_at, slot_at, object_at, All, holds_set, holds_void, IsRight, machine, rows_hold, IsRow, IsReadClosedBut}
use Rattle.noninterference.proofs.Names.{NamesBut, AreSameForReader, e0, e1, reader, remaining, server, rows}
use Rattle.std.proofs.Common.{◌≡◌}

-- if P holds of 1, 2, 5 and 6, it holds of each member
members : (P : ℕ → Type 0) → P 1 → P 2 → P 5 → P 6 → (n : ℕ) → IsTrue (reader n) → P n
members P root annex bank node zero inside = cc
members P root annex bank node (suc zero) inside = root
members P root annex bank node (suc (suc zero)) inside = annex
members P root annex bank node (suc (suc (suc zero))) inside = cc
members P root annex bank node (suc (suc (suc (suc zero)))) inside = cc
members P root annex bank node (suc (suc (suc (suc (suc zero))))) inside = bank
members P root annex bank node (suc (suc (suc (suc (suc (suc zero)))))) inside = node
members P root annex bank node (suc (suc (suc (suc (suc (suc (suc n))))))) inside = let never : ⊥ = grind arith in absurd never

abbrev Stays : Capability → Type 0
Stays c = NamesBut server reader c

held : (i : ℕ) → Stays (slice_index_or (slice_set (slice_set (slice_set (all_slots Void) 1 (Bank 5)) 2 (Node 6 weak)) 3 (Start 3 7)) i Void)
held i =
    holds_set Stays (slice_set (slice_set (all_slots Void) 1 (Bank 5)) 2 (Node 6 weak)) 3 (Start 3 7) Void (inr refl)
    (holds_set Stays (slice_set (all_slots Void) 1 (Bank 5)) 2 (Node 6 weak) Void (inl refl)
    (holds_set Stays (all_slots Void) 1 (Bank 5) Void (inl refl) (holds_void Stays (inl tt)))) i

owned_e0 : (n : ℕ) → is_free (content_at e0.objects n) ≡ false → owner_at e0.objects n ≡ 5 → IsTrue (reader n)
unfolding e0
owned_e0 zero used own = cc
owned_e0 (suc zero) used own = cc
owned_e0 (suc (suc zero)) used own = cc
owned_e0 (suc (suc (suc zero))) used own = cc
owned_e0 (suc (suc (suc (suc zero)))) used own = cc
owned_e0 (suc (suc (suc (suc (suc zero))))) used own = cc
owned_e0 (suc (suc (suc (suc (suc (suc zero)))))) used own = cc
owned_e0 (suc (suc (suc (suc (suc (suc (suc zero))))))) used own = cc
owned_e0 (suc (suc (suc (suc (suc (suc (suc (suc zero)))))))) used own = cc
owned_e0 (suc (suc (suc (suc (suc (suc (suc (suc (suc zero))))))))) used own = cc
owned_e0 (suc (suc (suc (suc (suc (suc (suc (suc (suc (suc zero)))))))))) used own = cc
owned_e0 (suc (suc (suc (suc (suc (suc (suc (suc (suc (suc (suc zero))))))))))) used own = cc
owned_e0 (suc (suc (suc (suc (suc (suc (suc (suc (suc (suc (suc (suc zero)))))))))))) used own = cc
owned_e0 (suc (suc (suc (suc (suc (suc (suc (suc (suc (suc (suc (suc (suc zero))))))))))))) used own = cc
owned_e0 (suc (suc (suc (suc (suc (suc (suc (suc (suc (suc (suc (suc (suc (suc zero)))))))))))))) used own = cc
owned_e0 (suc (suc (suc (suc (suc (suc (suc (suc (suc (suc (suc (suc (suc (suc (suc zero))))))))))))))) used own = cc
owned_e0 (suc (suc (suc (suc (suc (suc (suc (suc (suc (suc (suc (suc (suc (suc (suc (suc zero)))))))))))))))) used own = cc
owned_e0 (suc (suc (suc (suc (suc (suc (suc (suc (suc (suc (suc (suc (suc (suc (suc (suc (suc zero))))))))))))))))) used own = cc
owned_e0 (suc (suc (suc (suc (suc (suc (suc (suc (suc (suc (suc (suc (suc (suc (suc (suc (suc (suc zero)))))))))))))))))) used own = cc
owned_e0 (suc (suc (suc (suc (suc (suc (suc (suc (suc (suc (suc (suc (suc (suc (suc (suc (suc (suc (suc zero))))))))))))))))))) used own =
    cc
owned_e0 (suc (suc (suc (suc (suc (suc (suc (suc (suc (suc (suc (suc (suc (suc (suc (suc (suc (suc (suc (suc zero)))))))))))))))))))) used
    own = cc
owned_e0 (suc (suc (suc (suc (suc (suc (suc (suc (suc (suc (suc (suc (suc (suc (suc (suc (suc (suc (suc (suc (suc zero)))))))))))))))))))))
    used own = cc
owned_e0 (suc (suc (suc (suc (suc (suc (suc (suc (suc (suc (suc (suc (suc (suc
    (suc (suc (suc (suc (suc (suc (suc (suc zero)))))))))))))))))))))) used own = cc
owned_e0 (suc (suc (suc (suc (suc (suc (suc (suc (suc (suc (suc (suc (suc (suc
    (suc (suc (suc (suc (suc (suc (suc (suc (suc zero))))))))))))))))))))))) used own = cc
owned_e0 (suc (suc (suc (suc (suc (suc (suc (suc (suc (suc (suc (suc (suc (suc
    (suc (suc (suc (suc (suc (suc (suc (suc (suc (suc n)))))))))))))))))))))))) used own = cc

closed_e0 : IsReadClosedBut server e0.objects reader
unfolding e0 all_slots
closed_e0 = record {
  annexes = members (λ p. IsTrue (is_process e0.objects p) → IsTrue (reader (annex_at e0.objects p))) (λ is. refl) (λ is. cc) (λ is. cc)
      (λ is. cc);
  owned = λ b n inside. members
      (λ b. (n : ℕ) → IsTrue (is_bank (content_at e0.objects b)) → is_free (content_at e0.objects n) ≡ false → owner_at e0.objects n ≡ b →
      IsTrue (reader n))
      (λ n bank held owner. cc) (λ n bank held owner. cc) (λ n bank held owner. owned_e0 n held owner) (λ n bank held owner. cc) b inside n;
  slots = λ n i inside. members (λ n. (i : ℕ) → Stays (slot_at e0.objects n i)) (λ i. inl tt) held (λ i. inl tt)
      (λ i. holds_void Stays (inl tt) i) n inside i;
  spaces = members (λ p. Stays (root_at e0.objects p).space) (inl tt) (inl tt) (inl tt) (inl tt);
}

owned_e1 : (n : ℕ) → is_free (content_at e1.objects n) ≡ false → owner_at e1.objects n ≡ 5 → IsTrue (reader n)
unfolding e1
owned_e1 zero used own = cc
owned_e1 (suc zero) used own = cc
owned_e1 (suc (suc zero)) used own = cc
owned_e1 (suc (suc (suc zero))) used own = cc
owned_e1 (suc (suc (suc (suc zero)))) used own = cc
owned_e1 (suc (suc (suc (suc (suc zero))))) used own = cc
owned_e1 (suc (suc (suc (suc (suc (suc zero)))))) used own = cc
owned_e1 (suc (suc (suc (suc (suc (suc (suc zero))))))) used own = cc
owned_e1 (suc (suc (suc (suc (suc (suc (suc (suc zero)))))))) used own = cc
owned_e1 (suc (suc (suc (suc (suc (suc (suc (suc (suc zero))))))))) used own = cc
owned_e1 (suc (suc (suc (suc (suc (suc (suc (suc (suc (suc zero)))))))))) used own = cc
owned_e1 (suc (suc (suc (suc (suc (suc (suc (suc (suc (suc (suc zero))))))))))) used own = cc
owned_e1 (suc (suc (suc (suc (suc (suc (suc (suc (suc (suc (suc (suc zero)))))))))))) used own = cc
owned_e1 (suc (suc (suc (suc (suc (suc (suc (suc (suc (suc (suc (suc (suc zero))))))))))))) used own = cc
owned_e1 (suc (suc (suc (suc (suc (suc (suc (suc (suc (suc (suc (suc (suc (suc zero)))))))))))))) used own = cc
owned_e1 (suc (suc (suc (suc (suc (suc (suc (suc (suc (suc (suc (suc (suc (suc (suc zero))))))))))))))) used own = cc
owned_e1 (suc (suc (suc (suc (suc (suc (suc (suc (suc (suc (suc (suc (suc (suc (suc (suc zero)))))))))))))))) used own = cc
owned_e1 (suc (suc (suc (suc (suc (suc (suc (suc (suc (suc (suc (suc (suc (suc (suc (suc (suc zero))))))))))))))))) used own = cc
owned_e1 (suc (suc (suc (suc (suc (suc (suc (suc (suc (suc (suc (suc (suc (suc (suc (suc (suc (suc zero)))))))))))))))))) used own = cc
owned_e1 (suc (suc (suc (suc (suc (suc (suc (suc (suc (suc (suc (suc (suc (suc (suc (suc (suc (suc (suc zero))))))))))))))))))) used own =
    cc
owned_e1 (suc (suc (suc (suc (suc (suc (suc (suc (suc (suc (suc (suc (suc (suc (suc (suc (suc (suc (suc (suc zero)))))))))))))))))))) used
    own = cc
owned_e1 (suc (suc (suc (suc (suc (suc (suc (suc (suc (suc (suc (suc (suc (suc (suc (suc (suc (suc (suc (suc (suc zero)))))))))))))))))))))
    used own = cc
owned_e1 (suc (suc (suc (suc (suc (suc (suc (suc (suc (suc (suc (suc (suc (suc
    (suc (suc (suc (suc (suc (suc (suc (suc zero)))))))))))))))))))))) used own = cc
owned_e1 (suc (suc (suc (suc (suc (suc (suc (suc (suc (suc (suc (suc (suc (suc
    (suc (suc (suc (suc (suc (suc (suc (suc (suc zero))))))))))))))))))))))) used own = cc
owned_e1 (suc (suc (suc (suc (suc (suc (suc (suc (suc (suc (suc (suc (suc (suc
    (suc (suc (suc (suc (suc (suc (suc (suc (suc (suc n)))))))))))))))))))))))) used own = cc

closed_e1 : IsReadClosedBut server e1.objects reader
unfolding e1 all_slots
closed_e1 = record {
  annexes = members (λ p. IsTrue (is_process e1.objects p) → IsTrue (reader (annex_at e1.objects p))) (λ is. refl) (λ is. cc) (λ is. cc)
      (λ is. cc);
  owned = λ b n inside. members
      (λ b. (n : ℕ) → IsTrue (is_bank (content_at e1.objects b)) → is_free (content_at e1.objects n) ≡ false → owner_at e1.objects n ≡ b →
      IsTrue (reader n))
      (λ n bank held owner. cc) (λ n bank held owner. cc) (λ n bank held owner. owned_e1 n held owner) (λ n bank held owner. cc) b inside n;
  slots = λ n i inside. members (λ n. (i : ℕ) → Stays (slot_at e1.objects n i)) (λ i. inl tt) held (λ i. inl tt)
      (λ i. holds_void Stays (inl tt) i) n inside i;
  spaces = members (λ p. Stays (root_at e1.objects p).space) (inl tt) (inl tt) (inl tt) (inl tt);
}

pub same_for_reader : AreSameForReader
unfolding e0 e1
same_for_reader = (members (λ n. object_at e1.objects n ≡ object_at e0.objects n) refl refl refl refl, closed_e0, closed_e1)

pub rows_right : All IsRow rows
unfolding machine remaining e0 e1 rows
rows_right = rows_hold rows (All-from_recursion IsRight rows
    (refl, (refl, (refl, (refl, (refl, (refl, (refl, (refl, (refl, (refl, (refl, (refl, tt)))))))))))))
