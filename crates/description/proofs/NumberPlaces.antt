-- Which object has the number at a place of the list of all numbers.
use Rattle.description.proofs.Names.{ℕ, zero, suc, List, [], length, map, Option, Some, option_map, slice_get, IsSomeAnd, refl, sym, ap, subst, arith}
use Rattle.description.proofs.Names.{length-append, length-map, slice_get-map, object_count, Description, AreDistinct, HasNumbers, node_numbers, page_numbers}
use Rattle.description.proofs.Names.{MatchOption, Misnumbered, Named, BreaksNumber, number_at, IsFirstOutside, IsFirstTwice, IsOutside, place_of, All, IsTrue}
use Rattle.description.proofs.Names.{false≢true, is_node}
use Rattle.std.proofs.Common.{◌≡◌, ◌+◌, ◌-◌, ◌<◌, ◌≤◌, ◌∷◌, ◌++◌, ◌∙◌}
use Rattle.description.specs.declared.flaw.Misnumbered.TheVariants as misnumbered
use Rattle.description.specs.declared.flaw.Named.TheVariants as named
use Rattle.description.proofs.FieldFlaws.{all_refuted, twice_refuted}

front : {A : Type 0} (xs ys : List A) (i : ℕ) → i < length xs → slice_get (xs ++ ys) i ≡ slice_get xs i
front [] ys i lt = absurd (omega arith)
front (x ∷ xs) ys zero lt = refl
front (x ∷ xs) ys (suc i) lt = front xs ys i (omega arith)

behind : {A : Type 0} (xs ys : List A) (i : ℕ) → slice_get (xs ++ ys) (length xs + i) ≡ slice_get ys i
behind [] ys i = let at : 0 + i ≡ i = omega arith in ap (slice_get ys) at
behind (x ∷ xs) ys i = let at : suc (length xs) + i ≡ suc (length xs + i) = omega arith in
    ap (slice_get (x ∷ (xs ++ ys))) at ∙ behind xs ys i

module _ (d : Description) where
  abbrev banks : List ℕ
  banks = map (λ b. b.number) d.banks.items

  abbrev roots : List ℕ
  roots = map (λ p. p.root) d.processes.items

  abbrev annexes : List ℕ
  annexes = map (λ p. p.annex) d.processes.items

  abbrev plain : List ℕ
  plain = map (λ n. n.number) d.nodes.items

  -- the parameters: a place after those of banks and roots, for an annex or a node
  module _ (place root annex b p : ℕ) (is_b : b ≡ length d.banks.items) (is_p : p ≡ length d.processes.items) (low : b ≤ place)
      (is_root : root ≡ place - b)
      (more : p ≤ root)
      (is_annex : annex ≡ root - p) where
    front_length : length (banks ++ roots) ≡ b + p
    front_length = search (arith, length-append, length-map)

    rest_length : length (banks ++ roots ++ annexes) ≡ b + p + p
    rest_length = search (arith, length-append, length-map, front_length)

    pub annex_number : annex < p → option_map (λ q. q.annex) (slice_get d.processes.items annex) ≡ slice_get (node_numbers d) place
    annex_number less =
        let at : length (banks ++ roots) + annex ≡ place = omega (arith, front_length, low, is_root, more, is_annex) in
        let within : place < length (banks ++ roots ++ annexes) = omega (arith, rest_length, low, is_root, more, is_annex, less) in
        let mapped : slice_get annexes annex ≡ option_map (λ q. q.annex) (slice_get d.processes.items annex) =
        slice_get-map (λ q. q.annex) _ annex in
        let after : slice_get (banks ++ roots ++ annexes) (length (banks ++ roots) + annex) ≡ slice_get annexes annex = behind _ _ annex in
        let before : slice_get (banks ++ roots ++ annexes ++ plain) place ≡ slice_get (banks ++ roots ++ annexes) place =
        front _ plain place within in
        sym mapped ∙ sym after ∙ ap (slice_get (banks ++ roots ++ annexes)) at ∙ sym before

    pub node_number : p ≤ annex → option_map (λ n. n.number) (slice_get d.nodes.items (annex - p)) ≡ slice_get (node_numbers d) place
    node_number past =
        let at : length (banks ++ roots ++ annexes) + (annex - p) ≡ place =
        omega (arith, rest_length, low, is_root, more, is_annex, past) in
        let mapped : slice_get plain (annex - p) ≡ option_map (λ n. n.number) (slice_get d.nodes.items (annex - p)) =
        slice_get-map (λ n. n.number)
        d.nodes.items (annex - p) in
        let after : slice_get (banks ++ roots ++ annexes ++ plain) (length (banks ++ roots ++ annexes) + (annex - p))
        ≡ slice_get plain (annex - p) =
        behind (banks ++ roots ++ annexes) plain (annex - p) in
        sym mapped ∙ sym after ∙ ap (slice_get (banks ++ roots ++ annexes ++ plain)) at

  -- an option with a property isn't `None`
  found_in : {P : ℕ → Type 0} (o : Option ℕ) → IsSomeAnd o P → (n : ℕ) × (o ≡ Some n) × P n
  found_in o is = search arith

  -- if the number of a node, bank or process is out of range, and those before aren't, it is the first
  outside_at : (who : Named) → IsTrue (is_node who) → IsOutside 0 d.geometry.nodes (node_numbers d) (place_of d who) → IsFirstOutside d who
  outside_at (named.Page k) node out = absurd (false≢true node)
  outside_at who node out = out

  below : (ns : List ℕ) → All (λ n. (0 ≤ n) × (n < d.geometry.nodes)) ns → All (λ n. n < d.geometry.nodes) ns
  below ns all k e lt = (all k e lt).1

  pub node_outside : (ns : List ℕ) (i : ℕ) (who : Named) → ns ≡ node_numbers d → IsOutside 0 d.geometry.nodes ns i →
      number_at d who ≡ slice_get (node_numbers d) i → place_of d who ≡ i → IsTrue (is_node who) →
      BreaksNumber d (misnumbered.OutOfRange who)
  node_outside ns i who is out number place node =
      let there : IsOutside 0 d.geometry.nodes (node_numbers d) i = subst (λ ms. IsOutside 0 d.geometry.nodes ms i) is out in
      let found = found_in (slice_get (node_numbers d) i) there.1 in
      ((found.0, number ∙ found.1), outside_at who node (subst (λ j. IsOutside 0 d.geometry.nodes (node_numbers d) j) (sym place) there))

  pub page_outside : (ps : List ℕ) (i end : ℕ) → ps ≡ page_numbers d → end ≡ object_count d.geometry →
      All (λ n. (0 ≤ n) × (n < d.geometry.nodes)) (node_numbers d) → IsOutside d.geometry.nodes end ps i →
      BreaksNumber d (misnumbered.OutOfRange (named.Page i))
  page_outside ps i end is last nodes out =
      let there : IsOutside d.geometry.nodes (object_count d.geometry) (page_numbers d) i =
      subst (λ e. IsOutside d.geometry.nodes e (page_numbers d) i) last
      (subst (λ ms. IsOutside d.geometry.nodes end ms i) is out) in
      let found = found_in (slice_get (page_numbers d) i) there.1 in
      ((found.0, sym (slice_get-map (λ p. p.number) _ i) ∙ found.1), (below (node_numbers d) nodes, there))

  pub named_twice : (ns : List ℕ) (i j : ℕ) (one other : Named) → ns ≡ node_numbers d ++ page_numbers d →
      All (λ n. (0 ≤ n) × (n < d.geometry.nodes)) (node_numbers d) →
      All (λ n. (d.geometry.nodes ≤ n) × (n < object_count d.geometry)) (page_numbers d) → IsFirstTwice ns i j →
      number_at d one ≡ slice_get (node_numbers d ++ page_numbers d) i → number_at d other
      ≡ slice_get (node_numbers d ++ page_numbers d) j → place_of d one ≡ i → place_of d other ≡ j →
      BreaksNumber d (misnumbered.Twice one other)
  named_twice ns i j one other is nodes pages twice first second at_first at_second =
      let there : IsFirstTwice (node_numbers d ++ page_numbers d) i j = subst (λ ms. IsFirstTwice ms i j) is twice in (
        (there.1.1, first ∙ there.1.2),
        (there.1.1, second ∙ there.1.3),
        below (node_numbers d) nodes,
        pages,
        rw (at_first, at_second) there,
      )

  -- if two places were found, they are the first at which a number occurs twice
  pub found_twice : (ns : List ℕ) (found : Option (ℕ × ℕ)) (p : ℕ × ℕ) → found ≡ Some p →
      MatchOption found (AreDistinct ns) (λ q. IsFirstTwice ns q.0 q.1) → IsFirstTwice ns p.0 p.1
  found_twice ns found p is known = subst (λ o. MatchOption o (AreDistinct ns) (λ q. IsFirstTwice ns q.0 q.1)) is known

  -- a number out of range breaks the rule for numbers
  node_refuted : (i : ℕ) → IsOutside 0 d.geometry.nodes (node_numbers d) i → HasNumbers d → ⊥
  node_refuted i out has = all_refuted (λ n. n < d.geometry.nodes) (λ n. (0 ≤ n) × (n < d.geometry.nodes) → ⊥) (node_numbers d) i out.1
      (λ n within never. never (omega arith, within)) has.nodes

  pub number_refuted : (place : Misnumbered) → BreaksNumber d place → HasNumbers d → ⊥
  number_refuted (misnumbered.OutOfRange (named.Page k)) broken has = all_refuted
      (λ n. (d.geometry.nodes ≤ n) × (n < object_count d.geometry))
      (λ n. (d.geometry.nodes ≤ n) × (n < object_count d.geometry) → ⊥) (page_numbers d) k broken.1.1.1 (λ n within never. never within)
      has.pages
  number_refuted (misnumbered.OutOfRange (named.Bank k)) broken has = node_refuted (place_of d (named.Bank k)) broken.1 has
  number_refuted (misnumbered.OutOfRange (named.Root k)) broken has = node_refuted (place_of d (named.Root k)) broken.1 has
  number_refuted (misnumbered.OutOfRange (named.Annex k)) broken has = node_refuted (place_of d (named.Annex k)) broken.1 has
  number_refuted (misnumbered.OutOfRange (named.Node k)) broken has = node_refuted (place_of d (named.Node k)) broken.1 has
  number_refuted (misnumbered.Twice who other) broken has =
      twice_refuted (node_numbers d ++ page_numbers d) (place_of d who) (place_of d other) broken.4.1 has.distinct

  -- if all numbers are in range and distinct, the rule for numbers is kept
  pub has_numbers : (ns ps all : List ℕ) (end : ℕ) → ns ≡ node_numbers d → ps ≡ page_numbers d → all ≡ ns ++ ps →
      end ≡ object_count d.geometry → All (λ n. (0 ≤ n) × (n < d.geometry.nodes)) ns →
      All (λ n. (d.geometry.nodes ≤ n) × (n < object_count d.geometry)) ps → AreDistinct all → HasNumbers d
  has_numbers ns ps all end is_ns is_ps is_all last nodes pages distinct = record {
    nodes = subst (All (λ n. n < d.geometry.nodes)) is_ns (below ns nodes);
    pages = subst (All (λ n. (d.geometry.nodes ≤ n) × (n < object_count d.geometry))) is_ps pages;
    distinct = rw (← is_ns, ← is_ps, ← is_all) distinct;
  }
