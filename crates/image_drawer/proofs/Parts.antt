-- The graph of a part of a description.
use Rattle.image_drawer.proofs.Names.{nat_tests, arith, ℕ, Bool, true, false, Option, Some, None, List, [], map, refl, sym, ap, AllZip, filter, flat_map}
use Rattle.image_drawer.proofs.Names.{filter-append, Capability, Void, named, BankEntry, Description, NodeEntry, PageEntry, ProcessEntry, SlotEntry, Arrow}
use Rattle.image_drawer.proofs.Names.{Place, arrow_of, arrow_to, arrows_at, joined, node_arrows, process_arrows, IsPart, IsPartOfNode, IsPartOfProcess}
use Rattle.image_drawer.proofs.Names.{PartIsShown, is_inside, leads_inside, space_inside, unwrap_or, zip_map}
use Rattle.std.proofs.Common.{◌≡◌, if◌then◌else◌, ◌∷◌, ◌++◌, ◌∙◌}
use Rattle.std.specs.Prelude.{◌==◌, ◌&&◌}
use Rattle.image_drawer.specs.declared.arrow.Place.TheVariants as place

-- ---- lists

kept_one : {X Y : Type 0} (t : X → Bool) (g : X → List Y) (x : X) (xs : List X) (b : Bool) → t x ≡ b →
    flat_map g (filter t (x ∷ xs)) ≡ (if b then g x else []) ++ flat_map g (filter t xs)
kept_one {X} t g x xs true is = ap (λ (b : Bool). flat_map g (if b then x ∷ filter t xs else filter t xs)) is
kept_one {X} t g x xs false is = ap (λ (b : Bool). flat_map g (if b then x ∷ filter t xs else filter t xs)) is

-- filtering the images of a list gives the images of the filtered list, if this holds item by item
kept_flat : {X Y : Type 0} (t : X → Bool) (q : Y → Bool) (f g : X → List Y) → ((x : X) → filter q (f x) ≡ (if t x then g x else [])) →
    (xs : List X) → flat_map g (filter t xs) ≡ filter q (flat_map f xs)
kept_flat t q f g on [] = refl
kept_flat {Y = Y} t q f g on (x ∷ xs) = grind (arith, nat_tests, kept_flat t q f g on xs, kept_one, filter-append)

kept_cell : {X Y : Type 0} (b : Bool) (x : X) (xs : List X) (ys : List Y) (f : X → Y) → map f xs ≡ ys →
    map f (if b then x ∷ xs else xs) ≡ (if b then f x ∷ ys else ys)
kept_cell {Y = Y} true x xs ys f is = ap (λ (zs : List Y). f x ∷ zs) is
kept_cell false x xs ys f is = is

kept_map : {X Y : Type 0} (q : Y → Bool) (f : X → Y) (xs : List X) → map f (filter (λ x. q (f x)) xs) ≡ filter q (map f xs)
kept_map q f [] = refl
kept_map q f (x ∷ xs) = kept_cell (q (f x)) x (filter (λ y. q (f y)) xs) (filter q (map f xs)) f (kept_map q f xs)

zip_flat : {X Y : Type 0} (R : X → X → Type 0) (f g : X → List Y) → ((x y : X) → R x y → f y ≡ g x) → (xs ys : List X) → AllZip R xs ys →
    flat_map f ys ≡ flat_map g xs
zip_flat R f g on [] [] zip = refl
zip_flat R f g on [] (y ∷ ys) zip = absurd zip
zip_flat R f g on (x ∷ xs) [] zip = absurd zip
zip_flat {Y = Y} R f g on (x ∷ xs) (y ∷ ys) zip = grind (arith, nat_tests, zip_flat R f g on xs ys zip.1)

module _ (inside : ℕ → Bool) where
  -- ---- arrows

  abbrev ends : Arrow → Bool
  ends a = inside a.target

  abbrev both : Arrow → Bool
  both a = inside a.holder && inside a.target

  slot_kept : (h : ℕ) (p : Place) (c : Capability) (o : Option ℕ) → filter ends (arrow_to h p c o)
      ≡ (if is_inside inside o then arrow_to h p c o else [])
  slot_kept h p c None = refl
  slot_kept h p c (Some n) = refl

  slots_kept : (h : ℕ) (at : ℕ → Place) (slots : List SlotEntry) → arrows_at h at (filter (λ s. leads_inside inside s.capability) slots)
      ≡ filter ends (arrows_at h at slots)
  slots_kept h at slots =
      kept_flat (λ (s : SlotEntry). leads_inside inside s.capability) ends (λ (s : SlotEntry). arrow_of h (at s.index)
      (unwrap_or s.capability Void))
      (λ (s : SlotEntry). arrow_of h (at s.index) (unwrap_or s.capability Void))
      (λ s. slot_kept h (at s.index) (unwrap_or s.capability Void) (named (unwrap_or s.capability Void))) slots

  space_either : (h : ℕ) (c : Option Capability) (b : Bool) → leads_inside inside c ≡ b
      → arrow_of h place.Space (unwrap_or (if b then c else Some Void) Void) ≡ filter ends (arrow_of h place.Space (unwrap_or c Void))
  space_either h c b is = grind (arith, nat_tests, slot_kept)

  space_kept : (h : ℕ) (c : Option Capability) → arrow_of h place.Space (unwrap_or (space_inside inside c) Void) ≡ filter ends
      (arrow_of h place.Space (unwrap_or c Void))
  space_kept h c = space_either h c (leads_inside inside c) refl

  process_kept : (p q : ProcessEntry) → IsPartOfProcess inside p q → process_arrows q ≡ filter ends (process_arrows p)
  process_kept p q part = grind (arith, nat_tests, space_kept, slots_kept, filter-append)

  node_kept : (m n : NodeEntry) → IsPartOfNode inside m n → node_arrows n ≡ filter ends (node_arrows m)
  node_kept m n part =
      ap (λ (k : ℕ). arrows_at k place.Slot n.slots.items) part.number
      ∙ ap (λ (es : List SlotEntry). arrows_at m.number place.Slot es) part.slots
      ∙ slots_kept m.number place.Slot m.slots.items

  -- the arrows of one holder that are kept: if the holder is kept, those whose targets are
  one_both : (h : ℕ) (b : Bool) → inside h ≡ b → (p : Place) (c : Capability) (o : Option ℕ) →
      filter both (arrow_to h p c o) ≡ (if b then filter ends (arrow_to h p c o) else [])
  one_both h true is p c (Some n) = ap (λ (b : Bool). if b && inside n then arrow_to h p c (Some n) else []) is
  one_both h false is p c (Some n) = ap (λ (b : Bool). if b && inside n then arrow_to h p c (Some n) else []) is
  one_both h b is p c o = refl

  slots_both : (h : ℕ) (b : Bool) → inside h ≡ b → (at : ℕ → Place) (slots : List SlotEntry) →
      filter both (arrows_at h at slots) ≡ (if b then filter ends (arrows_at h at slots) else [])
  slots_both h true is at [] = refl
  slots_both h false is at [] = refl
  slots_both h true is at (s ∷ slots) = grind (arith, nat_tests, slots_both h true is at slots, filter-append, one_both)
  slots_both h false is at (s ∷ slots) =
      let first : List Arrow = arrow_of h (at s.index) (unwrap_or s.capability Void) in
      filter-append both first (arrows_at h at slots)
      ∙ ap (λ (vs : List Arrow). vs ++ filter both (arrows_at h at slots))
      (one_both h false is (at s.index) (unwrap_or s.capability Void) (named (unwrap_or s.capability Void)))
      ∙ slots_both h false is at slots

  process_both : (p : ProcessEntry) (b : Bool) → inside p.root ≡ b → filter both (process_arrows p)
      ≡ (if b then filter ends (process_arrows p) else [])
  process_both p true is =
      let first : List Arrow = arrow_of p.root place.Space (unwrap_or p.space Void) in
      let rest : List Arrow = arrows_at p.root place.Register p.registers.items in
      filter-append both first rest
      ∙ ap (λ (vs : List Arrow). vs ++ filter both rest) (one_both p.root true is place.Space (unwrap_or p.space Void)
      (named (unwrap_or p.space Void)))
      ∙ ap (λ (vs : List Arrow). filter ends first ++ vs) (slots_both p.root true is place.Register p.registers.items)
      ∙ sym (filter-append ends first rest)
  process_both p false is =
      let first : List Arrow = arrow_of p.root place.Space (unwrap_or p.space Void) in
      let rest : List Arrow = arrows_at p.root place.Register p.registers.items in
      filter-append both first rest
      ∙ ap (λ (vs : List Arrow). vs ++ filter both rest) (one_both p.root false is place.Space (unwrap_or p.space Void)
      (named (unwrap_or p.space Void)))
      ∙ slots_both p.root false is place.Register p.registers.items

  -- ---- owners

  owner_either : (o n : ℕ) (b c : Bool) → inside n ≡ c → filter (λ (p : ℕ × ℕ). inside p.1) (if b then [] else (o, n) ∷ []) ≡
      (if c then if b then [] else (o, n) ∷ [] else [])
  owner_either o n true true is = refl
  owner_either o n true false is = refl
  owner_either o n false true is = ap (λ (b : Bool). if b then (o, n) ∷ [] else []) is
  owner_either o n false false is = ap (λ (b : Bool). if b then (o, n) ∷ [] else []) is

  owner_kept : (o n : ℕ) → filter (λ (p : ℕ × ℕ). inside p.1) (joined o n) ≡ (if inside n then joined o n else [])
  owner_kept o n = owner_either o n (o == n) (inside n) refl

  module _ (d e : Description) (part : IsPart inside d e) where
    abbrev ps : List ProcessEntry
    ps = filter (λ (p : ProcessEntry). inside p.root) d.processes.items

    abbrev ns : List NodeEntry
    ns = filter (λ (n : NodeEntry). inside n.number) d.nodes.items

    bank_boxes : map (λ b. b.number) e.banks.items ≡ filter inside (map (λ b. b.number) d.banks.items)
    bank_boxes = ap (λ (bs : List BankEntry). map (λ b. b.number) bs) part.banks
        ∙ kept_map inside (λ (b : BankEntry). b.number) d.banks.items

    process_boxes : map (λ p. p.root) e.processes.items ≡ filter inside (map (λ p. p.root) d.processes.items)
    process_boxes = zip_map (IsPartOfProcess inside) (λ p. p.root) (λ p. p.root) (λ p q is. is.root) ps _ part.processes
        ∙ kept_map inside (λ (p : ProcessEntry). p.root) _

    node_boxes : map (λ n. n.number) e.nodes.items ≡ filter inside (map (λ n. n.number) d.nodes.items)
    node_boxes = zip_map (IsPartOfNode inside) (λ n. n.number) (λ n. n.number) (λ m n is. is.number) ns _ part.nodes
        ∙ kept_map inside (λ (n : NodeEntry). n.number) _

    page_boxes : map (λ p. p.number) e.pages.items ≡ filter inside (map (λ p. p.number) d.pages.items)
    page_boxes = ap (λ (qs : List PageEntry). map (λ p. p.number) qs) part.pages
        ∙ kept_map inside (λ (p : PageEntry). p.number) d.pages.items

    bank_owners : flat_map (λ b. joined b.owner b.number) e.banks.items ≡ filter (λ (p : ℕ × ℕ). inside p.1)
        (flat_map (λ b. joined b.owner b.number) d.banks.items)
    bank_owners = ap (λ (bs : List BankEntry). flat_map (λ b. joined b.owner b.number) bs) part.banks
        ∙ kept_flat (λ (b : BankEntry). inside b.number) (λ (p : ℕ × ℕ). inside p.1) (λ (b : BankEntry). joined b.owner b.number)
        (λ (b : BankEntry). joined b.owner b.number) (λ b. owner_kept b.owner b.number) d.banks.items

    process_owners : flat_map (λ p. joined p.owner p.root) e.processes.items ≡ filter (λ (p : ℕ × ℕ). inside p.1)
        (flat_map (λ p. joined p.owner p.root) d.processes.items)
    process_owners = zip_flat (IsPartOfProcess inside) (λ (p : ProcessEntry). joined p.owner p.root)
        (λ (p : ProcessEntry). joined p.owner p.root)
        (λ p q is. ap (λ (o : ℕ). joined o q.root) is.owner ∙ ap (λ (n : ℕ). joined p.owner n) is.root) ps _ part.processes
        ∙ kept_flat (λ (p : ProcessEntry). inside p.root) (λ (p : ℕ × ℕ). inside p.1) (λ (p : ProcessEntry). joined p.owner p.root)
        (λ (p : ProcessEntry). joined p.owner p.root) (λ p. owner_kept p.owner p.root) _

    node_owners : flat_map (λ n. joined n.owner n.number) e.nodes.items ≡ filter (λ (p : ℕ × ℕ). inside p.1)
        (flat_map (λ n. joined n.owner n.number) d.nodes.items)
    node_owners = zip_flat (IsPartOfNode inside) (λ (n : NodeEntry). joined n.owner n.number) (λ (n : NodeEntry). joined n.owner n.number)
        (λ m n is. ap (λ (o : ℕ). joined o n.number) is.owner ∙ ap (λ (k : ℕ). joined m.owner k) is.number) ns _ part.nodes
        ∙ kept_flat (λ (n : NodeEntry). inside n.number) (λ (p : ℕ × ℕ). inside p.1) (λ (n : NodeEntry). joined n.owner n.number)
        (λ (n : NodeEntry). joined n.owner n.number) (λ n. owner_kept n.owner n.number) _

    page_owners : flat_map (λ p. joined p.owner p.number) e.pages.items ≡ filter (λ (p : ℕ × ℕ). inside p.1)
        (flat_map (λ p. joined p.owner p.number) d.pages.items)
    page_owners = ap (λ (qs : List PageEntry). flat_map (λ p. joined p.owner p.number) qs) part.pages
        ∙ kept_flat (λ (p : PageEntry). inside p.number) (λ (p : ℕ × ℕ). inside p.1) (λ (p : PageEntry). joined p.owner p.number)
        (λ (p : PageEntry). joined p.owner p.number) (λ p. owner_kept p.owner p.number) d.pages.items

    process_part : flat_map process_arrows e.processes.items ≡ filter both (flat_map process_arrows d.processes.items)
    process_part = zip_flat (IsPartOfProcess inside) process_arrows (λ (p : ProcessEntry). filter ends (process_arrows p)) process_kept ps _
        part.processes
        ∙ kept_flat (λ (p : ProcessEntry). inside p.root) both process_arrows (λ (p : ProcessEntry). filter ends (process_arrows p))
        (λ p. process_both p (inside p.root) refl) _

    node_part : flat_map node_arrows e.nodes.items ≡ filter both (flat_map node_arrows d.nodes.items)
    node_part = zip_flat (IsPartOfNode inside) node_arrows (λ (n : NodeEntry). filter ends (node_arrows n)) node_kept ns _ part.nodes
        ∙ kept_flat (λ (n : NodeEntry). inside n.number) both node_arrows (λ (n : NodeEntry). filter ends (node_arrows n))
        (λ n. slots_both n.number (inside n.number) refl place.Slot n.slots.items) _

  four : {X : Type 0} (q : X → Bool) (ks bs cs ds ws xs ys zs : List X) → ks ≡ filter q ws → bs ≡ filter q xs → cs ≡ filter q ys →
      ds ≡ filter q zs → ks ++ bs ++ cs ++ ds ≡ filter q (ws ++ xs ++ ys ++ zs)
  four {X} q ks bs cs ds ws xs ys zs one two three last = rw (one, two, three, last) (simp filter-append)

pub part_is_shown : PartIsShown
part_is_shown =
    grind (
      arith,
      nat_tests,
      four,
      bank_boxes,
      process_boxes,
      node_boxes,
      page_boxes,
      bank_owners,
      process_owners,
      node_owners,
      page_owners,
      process_part,
      node_part,
      filter-append,
    )
