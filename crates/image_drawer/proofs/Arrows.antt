-- The arrows of the graph are those of the world.
use Rattle.image_drawer.proofs.Names.{nat_tests, arith, ℕ, Bool, true, false, inl, inr, List, [], map, Option, None, Some, slice_index_or, refl, sym, ap, subst}
use Rattle.image_drawer.proofs.Names.{IsTrue, Contains, flat_map, All-contains, Contains-append_cases, Contains-append_left, Contains-append_right, Capability}
use Rattle.image_drawer.proofs.Names.{Void, Geometry, Object, named, is_node, is_root, root_in, slots_in, World, annex_at, content_at, is_process, register_at}
use Rattle.image_drawer.proofs.Names.{root_at, slot_at, Description, NodeEntry, ProcessEntry, SlotEntry, AreDistinct, AreSlots, IsProcessEntry, Entry, OfAnnex}
use Rattle.image_drawer.proofs.Names.{OfBank, OfNode, OfPage, OfRoot, number_of, IsOf, described_cases, contains_cases, contains_here, contains_none, Describes}
use Rattle.image_drawer.proofs.Names.{plain_frames, arrow_of, arrow_to, arrows, arrows_at, node_arrows, process_arrows, ArrowsAreHeld, Holds, IsArrow, IsOnce}
use Rattle.image_drawer.proofs.Names.{Arrow, Place, unwrap_or, distinct_left, distinct_right}
use Rattle.std.proofs.Common.{◌≡◌, ◌∙◌}
use Rattle.image_drawer.specs.declared.arrow.Place.TheVariants as place
use Rattle.image_drawer.proofs.Once.{contains_flat, flat_contains, once_append, once_distinct, once_flat}
use Rattle.image_drawer.proofs.Reported.{annex_reported, bank_reported, free_reported, node_reported, page_reported, root_reported, said_slot, slot_said}

not_both : (b : Bool) → IsTrue b → b ≡ false → ⊥
not_both true is wrong = let never : true ≡ false = wrong in cc
not_both false is wrong = let never : false ≡ true = is in cc

-- an arrow of a capability ends at the object that the capability names
in_arrow_to : (holder : ℕ) (at : Place) (c : Capability) (o : Option ℕ) (a : Arrow) → Contains (arrow_to holder at c o) a
    → (target : ℕ) × (o ≡ Some target) × (record { holder = holder; place = at; capability = c; target = target } ≡ a)
in_arrow_to holder at c o a h = grind (arith, nat_tests, contains_none, contains_cases)

arrow_to_has : (holder : ℕ) (at : Place) (c : Capability) (o : Option ℕ) (target : ℕ) → o ≡ Some target
    → Contains (arrow_to holder at c o) (record { holder = holder; place = at; capability = c; target = target })
arrow_to_has holder at c o target is = rw is (contains_here (record { holder = holder; place = at; capability = c; target = target }) [])

arrow_once : (holder : ℕ) (at : Place) (c : Capability) (o : Option ℕ) → IsOnce (arrow_to holder at c o)
arrow_once holder at c None = tt
arrow_once holder at c (Some target) = (
  (λ h. contains_none (record { holder = holder; place = at; capability = c; target = target }) h),
  tt,
)

-- if an object holds a capability, the capability's arrow is one of the world
arrow_held : (os : List Object) (holder : ℕ) (at : Place) (c : Capability) (a : Arrow) → Holds os holder at c →
    Contains (arrow_of holder at c) a → IsArrow os a
arrow_held os holder at c a holds h =
    let found = in_arrow_to holder at c (named c) a h in
    let made : Arrow = record { holder = holder; place = at; capability = c; target = found.0 } in
    let is : IsArrow os made = (holds, found.1) in
    subst (IsArrow os) found.2 is

-- an arrow of a capability has the capability's holder and place
holder_is : (holder : ℕ) (at : Place) (c : Capability) (a : Arrow) → Contains (arrow_of holder at c) a →
    (a.holder ≡ holder) × (a.place ≡ at)
holder_is holder at c a h =
    let found = in_arrow_to holder at c (named c) a h in
    (ap (λ (b : Arrow). b.holder) (sym found.2), ap (λ (b : Arrow). b.place) (sym found.2))

-- the index of a place
abbrev index_of : Place → ℕ
index_of place.Space = 0
index_of (place.Register i) = i
index_of (place.Slot i) = i

abbrev value_of : SlotEntry → Capability
value_of s = unwrap_or s.capability Void

-- an arrow of slots is that of one of the slots
in_slots : (holder : ℕ) (at : ℕ → Place) (slots : List SlotEntry) (a : Arrow) → Contains (arrows_at holder at slots) a
    → (s : SlotEntry) × Contains slots s × Contains (arrow_of holder (at s.index) (value_of s)) a
in_slots holder at slots a h = contains_flat (λ s. arrow_of holder (at s.index) (value_of s)) a slots h

slots_once : (holder : ℕ) (at : ℕ → Place) (slots : List SlotEntry) → ((i : ℕ) → index_of (at i) ≡ i) →
    AreDistinct (map (λ s. s.index) slots) → IsOnce (arrows_at holder at slots)
slots_once holder at slots same distinct =
    once_flat (λ s. arrow_of holder (at s.index) (value_of s)) (λ a. index_of a.place) (λ s. s.index) slots (once_distinct _ distinct)
    (λ s there. arrow_once holder (at s.index) (value_of s) (named (value_of s)))
    (λ s a there. ap index_of (holder_is _ _ _ a there).1 ∙ same s.index)

slots_holder : (holder : ℕ) (at : ℕ → Place) (slots : List SlotEntry) (a : Arrow) → Contains (arrows_at holder at slots) a →
    (a.holder ≡ holder) × (i : ℕ) × (a.place ≡ at i)
slots_holder holder at slots a h =
    let found = in_slots holder at slots a h in
    let is = holder_is holder (at found.0.index) (value_of found.0) a found.2 in
    (is.0, found.0.index, is.1)

process_holder : (p : ProcessEntry) (a : Arrow) → Contains (process_arrows p) a → a.holder ≡ p.root
process_holder p a h = elim (Contains-append_cases _ _ a h) [
  | inl space ↦ (holder_is _ _ (unwrap_or p.space Void) a space).0
  | inr register ↦ (slots_holder _ place.Register p.registers.items a register).0
]

-- the place is a slot
abbrev IsAtSlot : Place → Type 0
IsAtSlot (place.Slot i) = Unit {0}
IsAtSlot _ = ⊥

abbrev IsAtRegister : Place → Type 0
IsAtRegister (place.Register i) = Unit {0}
IsAtRegister _ = ⊥

not_at_slot : (p : ProcessEntry) (a : Arrow) → Contains (process_arrows p) a → IsAtSlot a.place → ⊥
not_at_slot p a h slot = elim (Contains-append_cases _ _ a h) [
  | inl space ↦ subst IsAtSlot (holder_is _ _ (unwrap_or p.space Void) a space).1 slot
  | inr register ↦ let is = slots_holder _ place.Register p.registers.items a register in subst IsAtSlot is.2 slot
]

process_once : (p : ProcessEntry) → AreDistinct (map (λ s. s.index) p.registers.items) → IsOnce (process_arrows p)
process_once p distinct = once_append _ _ (arrow_once _ _ _ _) (slots_once _ place.Register _ (λ i. refl) distinct) (λ a space register.
    let is = slots_holder _ place.Register p.registers.items a register in
    let at : IsAtRegister a.place = subst IsAtRegister (sym is.2) tt in
    subst IsAtRegister (holder_is _ _ (unwrap_or p.space Void) a space).1 at)

-- The parameters: a world and its description.
module _ (g : Geometry) (w : World) (d : Description) (describes : Describes g w d) where
  roots_distinct : AreDistinct (map (λ p. p.root) d.processes.items)
  roots_distinct = grind (arith, nat_tests, distinct_right, distinct_left)

  nodes_distinct : AreDistinct (map (λ n. n.number) d.nodes.items)
  nodes_distinct = grind (arith, nat_tests, distinct_right, distinct_left)

  registers_are : (p : ProcessEntry) → Contains d.processes.items p → AreSlots 1 p.registers.items
  registers_are p there = (All-contains IsProcessEntry d.processes.items p describes.fields.processes there).registers

  slots_are : (n : NodeEntry) → Contains d.nodes.items n → AreSlots 0 n.slots.items
  slots_are n there = All-contains (λ (n : NodeEntry). AreSlots 0 n.slots.items) d.nodes.items n describes.fields.nodes there

  arrows_once : IsOnce (arrows d)
  arrows_once = once_append (flat_map process_arrows d.processes.items) (flat_map node_arrows d.nodes.items)
      (once_flat process_arrows (λ a. a.holder) (λ p. p.root) d.processes.items
      (once_distinct (map (λ p. p.root) d.processes.items) roots_distinct)
      (λ p there. process_once p (registers_are p there).distinct) process_holder)
      (once_flat node_arrows (λ a. a.holder) (λ n. n.number) d.nodes.items (once_distinct (map (λ n. n.number) d.nodes.items)
      nodes_distinct)
      (λ n there. slots_once n.number place.Slot n.slots.items (λ i. refl) (slots_are n there).distinct)
      (λ n a there. (slots_holder n.number place.Slot n.slots.items a there).0)) (λ a process node.
      let one = contains_flat process_arrows a d.processes.items process in
      let other = contains_flat node_arrows a d.nodes.items node in
      let is = slots_holder other.0.number place.Slot other.0.slots.items a other.2 in
      not_at_slot one.0 a one.2 (rw is.2 tt))

  -- each capability of a described process is one that the process holds
  root_is : (p : ProcessEntry) → Contains d.processes.items p → IsTrue (is_process w.objects p.root)
  root_is p there = ap (λ (o : Object). is_root o.content) (root_reported g w d describes p there).3

  space_is : (p : ProcessEntry) → Contains d.processes.items p → (root_at w.objects p.root).space ≡ unwrap_or p.space Void
  space_is p there =
      let root = root_reported g w d describes p there in
      ap (λ (o : Object). (root_in o.content).space) root.3 ∙ sym (ap (λ (o : Option Capability). unwrap_or o Void) root.2)

  annex_is : (p : ProcessEntry) → Contains d.processes.items p → annex_at w.objects p.root ≡ p.annex
  annex_is p there = ap (λ (o : Object). (root_in o.content).annex) (root_reported g w d describes p there).3

  register_is : (p : ProcessEntry) (there : Contains d.processes.items p) (i : ℕ) →
      register_at w.objects p.root i ≡ slice_index_or (annex_reported g w d describes p there).0 i Void
  register_is p there i =
      ap (λ (n : ℕ). slot_at w.objects n i) (annex_is p there)
      ∙ ap (λ (o : Object). slice_index_or (slots_in o.content) i Void) (annex_reported g w d describes p there).2

  slot_is : (n : NodeEntry) (there : Contains d.nodes.items n) (i : ℕ) → slot_at w.objects n.number i
      ≡ slice_index_or (node_reported g w d describes n there).0 i Void
  slot_is n there i = ap (λ (o : Object). slice_index_or (slots_in o.content) i Void) (node_reported g w d describes n there).2

  node_is : (n : NodeEntry) → Contains d.nodes.items n → IsTrue (is_node (content_at w.objects n.number))
  node_is n there = ap (λ (o : Object). is_node o.content) (node_reported g w d describes n there).2

  -- each arrow of the description is that of a capability that is held
  of_process : (p : ProcessEntry) (a : Arrow) → Contains d.processes.items p → Contains (process_arrows p) a → IsArrow w.objects a
  of_process p a there h = elim (Contains-append_cases _ _ a h) [
    | inl space ↦ arrow_held _ p.root place.Space (unwrap_or p.space Void) a (root_is p there, space_is p there) space
    | inr register ↦
        let found = in_slots _ place.Register _ a register in
        let annex = annex_reported g w d describes p there in
        arrow_held _ p.root (place.Register found.0.index) (value_of found.0) a
        (root_is p there, register_is p there _ ∙ slot_said 1 p.registers.items _ (registers_are p there) annex.1 _ found.1) found.2
  ]

  of_node : (n : NodeEntry) (a : Arrow) → Contains d.nodes.items n → Contains (node_arrows n) a → IsArrow w.objects a
  of_node n a there h =
      let found = in_slots _ place.Slot _ a h in
      let node = node_reported g w d describes n there in
      arrow_held _ _ _ _ a (node_is n there, slot_is n there _ ∙ slot_said 0 _ _ (slots_are n there) node.1 _ found.1) found.2

  of_arrows : (a : Arrow) → Contains (arrows d) a → IsArrow w.objects a
  of_arrows a h = elim (Contains-append_cases (flat_map process_arrows d.processes.items) (flat_map node_arrows d.nodes.items) a h) [
    | inl process ↦ let found = contains_flat process_arrows a d.processes.items process in of_process found.0 a found.1 found.2
    | inr node ↦ let found = contains_flat node_arrows a d.nodes.items node in of_node found.0 a found.1 found.2
  ]

  -- if a number is a process's, its entry is that process
  process_of : (e : Entry) → IsOf d e → IsTrue (is_process w.objects (number_of e)) →
      (p : ProcessEntry) × Contains d.processes.items p × (p.root ≡ number_of e)
  process_of (OfBank b) there is = absurd (not_both _ is (ap (λ (o : Object). is_root o.content) (bank_reported g w d describes b there)))
  process_of (OfRoot p) there is = (p, there, refl)
  process_of (OfAnnex p) there is = absurd (not_both _ is (ap (λ (o : Object). is_root o.content)
      (annex_reported g w d describes p there).2))
  process_of (OfNode n) there is = absurd (not_both _ is (ap (λ (o : Object). is_root o.content) (node_reported g w d describes n there).2))
  process_of (OfPage p) there is = absurd (not_both _ is (ap (λ (o : Object). is_root o.content) (page_reported g w d describes p there).1))

  node_of : (e : Entry) → IsOf d e → IsTrue (is_node (content_at w.objects (number_of e))) →
      (n : NodeEntry) × Contains d.nodes.items n × (n.number ≡ number_of e)
  node_of (OfBank b) there is = absurd (not_both _ is (ap (λ (o : Object). is_node o.content) (bank_reported g w d describes b there)))
  node_of (OfRoot p) there is = absurd (not_both _ is (ap (λ (o : Object). is_node o.content) (root_reported g w d describes p there).3))
  node_of (OfAnnex p) there is = absurd (not_both _ is (ap (λ (o : Object). is_node o.content) (annex_reported g w d describes p there).2))
  node_of (OfNode n) there is = (n, there, refl)
  node_of (OfPage p) there is = absurd (not_both _ is (ap (λ (o : Object). is_node o.content) (page_reported g w d describes p there).1))

  process_at : (n : ℕ) → IsTrue (is_process w.objects n) → (p : ProcessEntry) × Contains d.processes.items p × (p.root ≡ n)
  process_at n is = elim (described_cases d (plain_frames w.objects) n describes.frames) [
    | inl found ↦
        let process = process_of found.0 found.1 (subst (λ (m : ℕ). IsTrue (is_process w.objects m)) (sym found.2) is) in
        (process.0, process.1, process.2 ∙ found.2)
    | inr blank ↦ absurd (not_both _ is (ap (λ (o : Object). is_root o.content) (free_reported g w d describes n blank)))
  ]

  node_at : (n : ℕ) → IsTrue (is_node (content_at w.objects n)) → (e : NodeEntry) × Contains d.nodes.items e × (e.number ≡ n)
  node_at n is = elim (described_cases d (plain_frames w.objects) n describes.frames) [
    | inl found ↦
        let node = node_of found.0 found.1 (subst (λ (m : ℕ). IsTrue (is_node (content_at w.objects m))) (sym found.2) is) in
        (node.0, node.1, node.2 ∙ found.2)
    | inr blank ↦ absurd (not_both _ is (ap (λ (o : Object). is_node o.content) (free_reported g w d describes n blank)))
  ]

  -- each capability that is held has its arrow in the description
  abbrev HasArrow : ℕ → Place → Capability → ℕ → Type 0
  HasArrow holder at c target = Contains (arrows d) (record { holder = holder; place = at; capability = c; target = target })

  process_has : (p : ProcessEntry) (a : Arrow) → Contains d.processes.items p → Contains (process_arrows p) a → Contains (arrows d) a
  process_has p a there h = Contains-append_left _ _ a (flat_contains process_arrows p a _ there h)

  space_has : (p : ProcessEntry) (c : Capability) (target : ℕ) → Contains d.processes.items p → (root_at w.objects p.root).space ≡ c →
      named c ≡ Some target → HasArrow p.root place.Space c target
  space_has p c target there is names =
      let value : unwrap_or p.space Void ≡ c = sym (space_is p there) ∙ is in
      process_has p _ there (Contains-append_left (arrow_of p.root place.Space (unwrap_or p.space Void))
      (arrows_at p.root place.Register p.registers.items) _
      (rw value (arrow_to_has p.root place.Space c (named c) target names)))

  slot_has : (holder : ℕ) (at : ℕ → Place) (slots : List SlotEntry) (s : SlotEntry) (i : ℕ) (c : Capability) (target : ℕ) →
      Contains slots s → s.index ≡ i → value_of s ≡ c → named c ≡ Some target
      → Contains (arrows_at holder at slots) (record { holder = holder; place = at i; capability = c; target = target })
  slot_has holder at slots s i c target there is value names = flat_contains (λ s. arrow_of holder (at s.index) (value_of s)) s _ slots
      there
      (rw is (rw value (arrow_to_has _ _ c _ _ names)))

  register_has : (p : ProcessEntry) (i : ℕ) (c : Capability) (target : ℕ) → Contains d.processes.items p →
      register_at w.objects p.root i ≡ c → named c ≡ Some target → HasArrow p.root (place.Register i) c target
  register_has p i c target there is names =
      let annex = annex_reported g w d describes p there in
      let found = said_slot 1 _ _ (registers_are p there) annex.1 i c _ (sym (register_is p there i) ∙ is) names in
      process_has p _ there (Contains-append_right _ _ _ (slot_has _ place.Register _ _ i c _ found.1 found.2 found.3 names))

  node_has : (n : NodeEntry) (i : ℕ) (c : Capability) (target : ℕ) → Contains d.nodes.items n → slot_at w.objects n.number i ≡ c →
      named c ≡ Some target → HasArrow n.number (place.Slot i) c target
  node_has n i c target there is names =
      let node = node_reported g w d describes n there in
      let found = said_slot 0 _ _ (slots_are n there) node.1 i c _ (sym (slot_is n there i) ∙ is) names in
      Contains-append_right _ _ _ (flat_contains node_arrows n _ _ there (slot_has _ place.Slot _ _ i c _ found.1 found.2 found.3 names))

  held_has : (holder : ℕ) (at : Place) (c : Capability) (target : ℕ) → Holds w.objects holder at c → named c ≡ Some target →
      HasArrow holder at c target
  held_has holder at c target holds names = grind (arith, nat_tests, process_at, space_has, register_has, node_at, node_has)

  in_arrows : (a : Arrow) → IsArrow w.objects a → Contains (arrows d) a
  in_arrows a is = held_has a.holder a.place a.capability a.target is.0 is.1

pub arrows_are_held : ArrowsAreHeld
arrows_are_held g w d describes = (
  arrows_once g w d describes,
  λ a. (of_arrows g w d describes a, in_arrows g w d describes a),
)
