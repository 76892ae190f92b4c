-- The members after the first, one by one.
use Rattle.std.proofs.Common.{ℕ, List, length, get_or, take, add-one, append-nil, append_assoc, arith, ◌≡◌, ◌+◌, ◌<◌, ◌≤◌, ◌++◌}
use Rattle.std.proofs.Math.Seq.{take-suc}
use Rattle.std.proofs.lemmas.Grind.{common_steps, flat_map-append}
use Rattle.std.proofs.lemmas.List.{take_all}
use Rattle.std.specs.List.{flat_map}

module _ {A : Type 0} (text : A → List ℕ) (xs : List A) (first line : List ℕ) (i : ℕ) where
  pub rest_more : (d : A) (more : List ℕ) → i < length xs → line ≡ first ++ flat_map text (take i xs) → more ≡ line ++ text (get_or xs i d)
      → more ≡ first ++ flat_map text (take (i + 1) xs)
  rest_more d more lt before after = grind (arith, common_steps, add-one, take-suc, flat_map-append, append-nil, append_assoc)

  pub rest_all : length xs ≤ i → line ≡ first ++ flat_map text (take i xs) → line ≡ first ++ flat_map text xs
  rest_all le before = grind (arith, common_steps, take_all)
