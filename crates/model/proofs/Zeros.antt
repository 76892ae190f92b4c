-- Words that are 0.
use Rattle.std.proofs.Common.{◌≡◌, ℕ, ◌<◌, ◌≤◌, List, length, replicate, slice_index, ap, sym, ◌∙◌, arith}
use Rattle.std.proofs.lemmas.List.{get_or-replicate, length-replicate}
use Rattle.std.proofs.lemmas.Grind.{same_number_lists}
use Rattle.model.specs.Words.{IsZeroFrom}

-- words that are all 0 are 0 from index 0 on
pub zero_from_start : (words : List ℕ) → words ≡ replicate 512 0 → IsZeroFrom 0 words
zero_from_start words are = (omega arith, λ i from within. ap (λ it. slice_index it i) are ∙ get_or-replicate 512 i 0 0 within)

-- 512 words are all 0 if those before `index` are, and those from `end` on, where `end` is at most `index`
pub all_zero : (words : List ℕ) (end index : ℕ) → length words ≡ 512 → end ≤ index → ((i : ℕ) → i < index → slice_index words i ≡ 0)
    → IsZeroFrom end words → words ≡ replicate 512 0
all_zero words end index count past before from =
    same_number_lists words (replicate 512 0) (count ∙ sym (length-replicate {A = ℕ} 512 0)) (λ k within.
    let zero : slice_index words k ≡ 0 = grind (arith, before k, from.1 k) in
    zero ∙ sym (get_or-replicate 512 k 0 0 (omega (arith, count, within))))
