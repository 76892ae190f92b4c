-- Writing items as lines, each with its number.
use Rattle.script.proofs.Names.{nat_tests, ℕ, add-one, List, [], length, get_or, take, drop, refl, sym, ap, append-nil, arith, flat_map, enumerate_from}
use Rattle.script.proofs.Names.{flat_map-append, take-append-drop, take_all, take-suc}
use Rattle.std.proofs.Common.{length-take-le, ◌≡◌, ◌+◌, ◌<◌, ◌≤◌, ◌∷◌, ◌++◌, ◌∙◌}

enumerate_append : {A : Type 0} (n : ℕ) (xs ys : List A) → enumerate_from n (xs ++ ys)
    ≡ enumerate_from n xs ++ enumerate_from (n + length xs) ys
enumerate_append n [] ys = let same : n + 0 ≡ n = omega arith in rw same refl
enumerate_append {A} n (x ∷ xs) ys = grind (arith, nat_tests, enumerate_append (n + 1) xs ys)

module _ {A : Type 0} (line : ℕ × A → List ℕ) (xs : List A) where
  -- the lines of the first i items
  abbrev pub lines_before : ℕ → List ℕ
  lines_before i = flat_map line (enumerate_from 0 (take i xs))

  pub lines_more : (i : ℕ) (d : A) → i < length xs → lines_before (i + 1) ≡ lines_before i ++ line (i, get_or xs i d)
  lines_more i d lt =
      let here : 0 + length (take i xs) ≡ i = omega (arith, length-take-le i xs (omega arith)) in
      let front : take (i + 1) xs ≡ take i xs ++ (get_or xs i d ∷ []) = rw add-one (take-suc xs i d lt) in
      grind (arith, nat_tests, enumerate_append, flat_map-append, append-nil)

  pub lines_whole : (i : ℕ) → flat_map line (enumerate_from 0 xs) ≡ lines_before i ++ flat_map line
      (enumerate_from (0 + length (take i xs)) (drop i xs))
  lines_whole i = ap (λ (l : List A). flat_map line (enumerate_from 0 l)) (sym (take-append-drop i xs))
      ∙ ap (flat_map line) (enumerate_append 0 _ _)
      ∙ flat_map-append line (enumerate_from 0 (take i xs)) (enumerate_from (0 + length (take i xs)) (drop i xs))

  pub lines_split : (i : ℕ) (d : A) → i < length xs
      → flat_map line (enumerate_from 0 xs) ≡ (lines_before i ++ line (i, get_or xs i d)) ++ flat_map line
      (enumerate_from (0 + length (take (i + 1) xs)) (drop (i + 1) xs))
  lines_split i d lt = grind (arith, nat_tests, lines_whole, lines_more)

  pub lines_all : (i : ℕ) → length xs ≤ i → lines_before i ≡ flat_map line (enumerate_from 0 xs)
  lines_all i le = ap (λ (l : List A). flat_map line (enumerate_from 0 l)) (take_all i xs le)
