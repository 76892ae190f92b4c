-- Whether bytes are all 0: their bits are or-ed.
use Rattle.devices.proofs.Names.{nat_tests, ℕ, List, length, get_or, replicate, sym, arith, bit_or, IsTrue, le_or_l, le_or_r, same_lists, get_or-replicate}
use Rattle.devices.proofs.Names.{get_or_default, length-replicate}
use Rattle.std.specs.Prelude.{nat_eq, ◌↔◌}
use Rattle.std.proofs.Common.{◌≡◌, ◌+◌, ◌<◌, ◌∙◌}

-- `any` is 0 exactly if the first i bytes are
pub record IsSum (bytes : List ℕ) (i any : ℕ) : Type 0 where
  pub zero_bytes : any ≡ 0 → (k : ℕ) → k < i → get_or bytes k 0 ≡ 0
  pub zero_sum : ((k : ℕ) → k < i → get_or bytes k 0 ≡ 0) → any ≡ 0

pub sum_more : (bytes : List ℕ) (i any : ℕ) → IsSum bytes i any → IsSum bytes (i + 1) (bit_or any (get_or bytes i 0))
sum_more bytes i any s = grind (arith, nat_tests, le_or_l, le_or_r)

sum_zeros : (bytes : List ℕ) (any : ℕ) → IsSum bytes (length bytes) any → any ≡ 0 → bytes ≡ replicate (length bytes) 0
sum_zeros bytes any s e =
    same_lists bytes (replicate (length bytes) 0) (sym (length-replicate (length bytes) 0))
    (λ k d lt. get_or_default bytes k d 0 lt ∙ s.zero_bytes e k lt ∙ sym (get_or-replicate (length bytes) k 0 d lt))

zeros_sum : (bytes : List ℕ) (any : ℕ) → IsSum bytes (length bytes) any → bytes ≡ replicate (length bytes) 0 → any ≡ 0
zeros_sum bytes any s e = grind (arith, nat_tests, get_or-replicate)

pub are_zeros : (bytes : List ℕ) (i any : ℕ) → i ≡ length bytes → IsSum bytes i any →
    IsTrue (nat_eq any 0) ↔ (bytes ≡ replicate (length bytes) 0)
are_zeros bytes i any e s = grind (arith, nat_tests, sum_zeros, zeros_sum)
