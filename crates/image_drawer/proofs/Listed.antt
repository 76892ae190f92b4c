-- The numbers of an object's holders, and those of the boxes.
use Rattle.image_drawer.proofs.Names.{ℕ, Bool, true, false, List, [], length, map, refl, sym, ap, subst, arith, All, Contains, nat_tests, All-append}
use Rattle.image_drawer.proofs.Names.{All-contains, All-map, object_count, BankEntry, Description, NodeEntry, PageEntry, ProcessEntry, HasNumbers, OfBank}
use Rattle.image_drawer.proofs.Names.{OfNode, OfPage, OfRoot, in_range, all_from, contains_here, contains_there, boxes, is_listed, slice_set, replicate}
use Rattle.image_drawer.proofs.Names.{get_or-set_other, get_or-set_same, length-replicate, length-set, is_marked, Adds, holding_nodes, get_or, take}
use Rattle.image_drawer.proofs.Names.{holding_processes, take_more, list_any-append, All-filter, list_any}
use Rattle.std.proofs.Common.{◌≡◌, ◌<◌, ◌+◌, ◌∷◌, ◌++◌, ◌∙◌, suc}
use Rattle.std.specs.Prelude.{◌==◌, ◌||◌}

either_or : (a r b c : Bool) → r ≡ (b || c) → (a || r) ≡ ((a || b) || c)
either_or true r b c is = refl
either_or false r b c is = is

-- a number is in a mapped list exactly if it is the image of an item
listed_map : {X : Type 0} (f : X → ℕ) (n : ℕ) (xs : List X) → is_listed n (map f xs) ≡ list_any (λ x. f x == n) xs
listed_map f n [] = refl
listed_map f n (x ∷ xs) = ap (λ (b : Bool). (f x == n) || b) (listed_map f n xs)

pub box_listed : (n : ℕ) (d : Description) → is_listed n (boxes d)
    ≡ (list_any (λ b. b.number == n) d.banks.items || list_any (λ p. p.root == n) d.processes.items || list_any (λ m. m.number == n)
    d.nodes.items || list_any
    (λ p. p.number == n) d.pages.items)
box_listed n d = grind (arith, nat_tests, list_any-append {X = ℕ}, listed_map)

pub listed_contains : (n : ℕ) (ns : List ℕ) → is_listed n ns ≡ true → Contains ns n
listed_contains n [] is = absurd cc
listed_contains n (m ∷ ns) is = grind (arith, nat_tests, listed_contains n ns, contains_here, contains_there)

module _ (d : Description) (numbers : HasNumbers d) where
  abbrev Below : ℕ → Type 0
  Below n = n < object_count d.geometry

  roots_below : All (λ p. Below p.root) d.processes.items
  roots_below = all_from (λ (p : ProcessEntry). Below p.root) d.processes.items
      (λ p there. let below = in_range d (OfRoot p) numbers there in omega (arith, below))

  nodes_below : All (λ n. Below n.number) d.nodes.items
  nodes_below = all_from (λ (n : NodeEntry). Below n.number) d.nodes.items (λ n there. let below = in_range d (OfNode n) numbers there in
      omega (arith, below))

  pub holding_below : (o : ℕ) → All Below (holding_processes o d.processes.items ++ holding_nodes o d.nodes.items)
  holding_below o = All-append Below _ _ (All-map Below (λ p. p.root) _ (All-filter _ (λ p. Below p.root) _ roots_below))
      (All-map Below (λ n. n.number) _ (All-filter _ (λ n. Below n.number) _ nodes_below))

  boxes_below : All Below (boxes d)
  boxes_below =
      All-append Below (map (λ b. b.number) d.banks.items ++ map (λ p. p.root) d.processes.items ++ map (λ n. n.number) d.nodes.items)
      (map (λ p. p.number) d.pages.items)
      (All-append Below (map (λ b. b.number) d.banks.items ++ map (λ p. p.root) d.processes.items) (map (λ n. n.number) d.nodes.items)
      (All-append Below (map (λ b. b.number) d.banks.items) (map (λ p. p.root) d.processes.items)
      (All-map Below (λ b. b.number) d.banks.items
      (all_from (λ (b : BankEntry). Below b.number) d.banks.items (λ b there. let below = in_range d (OfBank b) numbers there in
      omega (arith, below))))
      (All-map Below (λ p. p.root) d.processes.items roots_below))
      (All-map Below (λ n. n.number) d.nodes.items nodes_below))
      (All-map Below (λ p. p.number) d.pages.items
      (all_from (λ (p : PageEntry). Below p.number) d.pages.items (λ p there. (in_range d (OfPage p) numbers there).1)))

  pub object_below : (o : ℕ) → is_listed o (boxes d) ≡ true → Below o
  object_below o drawn = All-contains Below (boxes d) o boxes_below (listed_contains o (boxes d) drawn)

-- or with `false` changes nothing
or_none : (a : Bool) → a ≡ (a || false)
or_none true = refl
or_none false = refl

or_here : (a b : Bool) → b ≡ true → (a || (b || false)) ≡ true
or_here false false is = is
or_here a b is = refl

pub adds_none : (was : List Bool) → Adds [] was was
adds_none was = record { size = refl; marks = λ n. or_none (is_marked was n) }

marked_one : (was : List Bool) (n m : ℕ) → n < length was → is_marked (slice_set was n true) m ≡ (is_marked was m || ((n == m) || false))
marked_one was n m within = grind (arith, nat_tests, get_or-set_same, or_here, get_or-set_other, or_none)

adds_one : (was : List Bool) (n : ℕ) → n < length was → Adds (n ∷ []) was (slice_set was n true)
adds_one was n within = record { size = length-set was n true; marks = λ m. marked_one was n m within }

adds_both : (ms ns : List ℕ) (was between now : List Bool) → Adds ms was between → Adds ns between now → Adds (ms ++ ns) was now
adds_both ms ns was between now first second = record {
  size = second.size ∙ first.size;
  marks = λ n. second.marks n ∙ ap (λ (b : Bool). b || is_listed n ns) (first.marks n)
      ∙ sym (either_or (is_marked was n) (is_listed n (ms ++ ns)) (is_listed n ms) (is_listed n ns) (list_any-append (λ m. m == n) ms ns));
}

-- adding the first i numbers and then the next adds the first i + 1
pub adds_more : (ns : List ℕ) (i d : ℕ) (was now : List Bool) → i < length ns → Adds (take i ns) was now → get_or ns i d < length now →
    Adds (take (i + 1) ns) was (slice_set now (get_or ns i d) true)
adds_more ns i d was now within adds below = rw (take_more ns i d within) (adds_both (take i ns) (get_or ns i d ∷ []) was now _ adds
    (adds_one now _ below))

-- a new set is empty
none_marked : (count n : ℕ) → is_marked (replicate count false) n ≡ false
none_marked (suc c) (suc n) = none_marked c n
none_marked count n = refl

-- a set that got the object and then its holders has these numbers
pub holders_marked : (count o : ℕ) (ns : List ℕ) (now : List Bool) → o < count → Adds ns (slice_set (replicate count false) o true) now →
    (n : ℕ) → is_marked now n ≡ is_listed n (o ∷ ns)
holders_marked count o ns now within adds n =
    let none = replicate count false in
    let one = adds_one none o (subst (λ (k : ℕ). o < k) (sym (length-replicate count false)) within) in
    (adds_both (o ∷ []) ns none _ now one adds).marks n ∙ ap (λ (b : Bool). b || is_listed n (o ∷ ns)) (none_marked count n)
