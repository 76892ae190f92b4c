-- The numbers used last, and the one used longest ago.
use Rattle.cache_entries.proofs.Names.{nat_tests, ℕ, zero, suc, true, false, true≢false, List, [], length, take, Some, refl, sym, ap, arith, slice_get}
use Rattle.cache_entries.proofs.Names.{is_member, AllDiffer, without}
use Rattle.std.proofs.Common.{◌≡◌, ◌≢◌, ◌+◌, ◌<◌, ◌∷◌, ◌∙◌}
use Rattle.cache_entries.proofs.Orders.{listed_member, in_front, without_tail, gone}

module _ (n : ℕ) where
  pub apart_from : (m : ℕ) (ms : List ℕ) (place : ℕ) → slice_get ms place ≡ Some n → is_member ms m ≡ false → n ≢ m
  apart_from m ms place at none same = true≢false (sym (listed_member ms place n at) ∙ ap (is_member ms) same ∙ none)

  -- if there are more than k numbers, removing the last one doesn't change the first k
  pub front_stays : (ns : List ℕ) (i k : ℕ) → i + 1 ≡ length ns → AllDiffer ns → slice_get ns i ≡ Some n → k < length ns →
      take k (without n ns) ≡ take k ns
  front_stays [] i k last once at below = absurd (omega (arith, below))
  front_stays (m ∷ ms) i zero last once at below = refl
  front_stays (m ∷ ms) zero (suc k) last once at below = absurd (omega (arith, last, below))
  front_stays (m ∷ ms) (suc i) (suc k) last once at below =
      grind (arith, nat_tests, without_tail, apart_from, front_stays ms i k (omega (arith, last)) once.1 at (omega (arith, below)))

  -- if there are more than k numbers, the first k don't include the last
  pub front_apart : (ns : List ℕ) (i k m : ℕ) → i + 1 ≡ length ns → AllDiffer ns → slice_get ns i ≡ Some n → k < length ns →
      is_member (take k ns) m ≡ true → m ≢ n
  front_apart ns i k m last once at below is same = true≢false (
      sym (in_front k (without n ns) m (ap (λ (ms : List ℕ). is_member ms m) (front_stays ns i k last once at below) ∙ is))
      ∙ ap (is_member (without n ns)) same ∙ gone n ns once)
