-- Lines of items that have no numbers.
use Rattle.reach.proofs.Names.{common_steps, ℕ, add-one, List, length, get_or, take, drop, sym, ap, append-nil, arith, flat_map, flat_map-append}
use Rattle.reach.proofs.Names.{take-append-drop, take_all, take-suc}
use Rattle.std.proofs.Common.{◌≡◌, ◌+◌, ◌<◌, ◌≤◌, ◌++◌, ◌∙◌}

module _ {A : Type 0} (line : A → List ℕ) (xs : List A) where
  pub plain_more : (i : ℕ) (d : A) → i < length xs → flat_map line (take (i + 1) xs) ≡ flat_map line (take i xs) ++ line (get_or xs i d)
  plain_more i d lt = grind (arith, common_steps, add-one, take-suc, flat_map-append, append-nil)

  pub plain_split : (i : ℕ) (d : A) → i < length xs → flat_map line xs ≡ (flat_map line (take i xs) ++ line (get_or xs i d)) ++ flat_map
      line (drop (i + 1) xs)
  plain_split i d lt = ap (flat_map line) (sym (take-append-drop _ xs)) ∙ flat_map-append line (take (i + 1) xs) (drop (i + 1) xs)
      ∙ ap (λ (t : List ℕ). t ++ flat_map line (drop (i + 1) xs)) (plain_more i d lt)

  pub plain_all : (i : ℕ) → length xs ≤ i → flat_map line (take i xs) ≡ flat_map line xs
  plain_all i le = ap (flat_map line) (take_all i xs le)
