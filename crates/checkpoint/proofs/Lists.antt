-- Lists made number by number.
use Rattle.std.proofs.Common.{◌≡◌, ℕ, ◌<◌, map, sym, ◌∙◌, arith}
use Rattle.std.specs.List.{range_with_len}
use Rattle.std.proofs.lemmas.List.{same_lists}
use Rattle.std.proofs.lemmas.List.FromFn.{length-map-range_with_len, get_or-map-range_with_len}

-- functions that agree on all numbers below a count map these numbers to the same list
pub maps_same : {X : Type 0} (f g : ℕ → X) (n : ℕ) → ((i : ℕ) → i < n → f i ≡ g i) → map f (range_with_len 0 n) ≡ map g (range_with_len 0 n)
maps_same f g n same =
    same_lists (map f (range_with_len 0 n)) (map g (range_with_len 0 n)) (length-map-range_with_len f 0 n
    ∙ sym (length-map-range_with_len g 0 n))
    (λ i d lt.
    let few : i < n = omega (arith, lt, length-map-range_with_len f 0 n) in
    get_or-map-range_with_len f 0 n i i d few (omega arith) ∙ same i few ∙ sym (get_or-map-range_with_len g 0 n i i d few (omega arith)))
