-- If a description is renumbered for an image with more or fewer nodes or pages, it describes the same world there.
use Rattle.image_describer.proofs.Names.{nat_tests, inl, inr, ℕ, List, [], map, length, sym, ap, subst, arith, Vec, Global, All, Contains, cases_lt, length-map}
use Rattle.image_describer.proofs.Names.{All-append, All-contains, All-map, Contains-append_cases, Contains-append_left, Contains-append_right, Capability}
use Rattle.image_describer.proofs.Names.{Frame, Geometry, Object, State, blank_frame, frame_at, object_count, fresh_cap, BankEntry, Description, NodeEntry}
use Rattle.image_describer.proofs.Names.{PageEntry, ProcessEntry, SlotEntry, WordEntry, AreDistinct, AreSlots, AreWords, HasFields, HasNamedWords, HasNumbers}
use Rattle.image_describer.proofs.Names.{HoldsNamed, IsDescribed, IsDescribedAnnex, IsDescribedNode, IsDescribedPage, IsDescribedRoot, IsProcessEntry}
use Rattle.image_describer.proofs.Names.{IsSpaceEntry, first_frame, node_numbers, page_numbers, OfAnnex, OfBank, OfNode, OfPage, OfRoot, described_of, in_range}
use Rattle.image_describer.proofs.Names.{all_from, contains_here, contains_map, contains_there, map_contains, AreBriefSlots, AreBriefWords, AreRising, IsBrief}
use Rattle.image_describer.proofs.Names.{plain_frame, plain_frames, IsMovedNode, IsMovedPage, IsMovedProcess, IsRenumbered, NamesNodes, NamesPages, moved}
use Rattle.image_describer.proofs.Names.{distinct_left, distinct_right, zip_all, zip_map}
use Rattle.std.proofs.Common.{◌≡◌, ◌<◌, ◌≤◌, ◌^◌, ◌∷◌, ◌++◌, ◌∙◌}
use Rattle.model.specs.declared.object.Content.TheVariants as content
use Rattle.image_describer.proofs.GrownWorld.{comes_from, frame_arrived, frame_inside, frame_past, grown_length, grown_objects, node_arrives, origin}
use Rattle.image_describer.proofs.GrownWorld.{page_arrives}
use Rattle.image_describer.proofs.Moved.{brief_moved, holds_moved, moved_cap, moved_frame, node_stays, page_moves, slots_moved, space_entry_moved}
use Rattle.image_describer.proofs.Rising.{distinct_both, distinct_other}

-- ---- entries

module _ (at : ℕ → ℕ) where
  root_is : (p q : ProcessEntry) → IsMovedProcess at p q → (state : State) (c : Capability)
      → first_frame p.owner (content.Root (record { state = state; words = p.words; key = p.key; annex = p.annex; space = fresh_cap c }))
      ≡ first_frame q.owner (content.Root (record { state = state; words = q.words; key = q.key; annex = q.annex; space = fresh_cap c }))
  root_is p q same state c = grind (arith, nat_tests)

  pub root_moved : (p q : ProcessEntry) (f : Frame) → IsMovedProcess at p q → IsDescribedRoot p f → IsDescribedRoot q (moved_frame at f)
  root_moved p q f same is = grind (arith, nat_tests, root_is)

  pub annex_moved : (p q : ProcessEntry) (f : Frame) → IsMovedProcess at p q → IsDescribedAnnex p f → IsDescribedAnnex q (moved_frame at f)
  annex_moved p q f same is = (
    map (moved_cap at) is.0,
    subst (λ (es : List SlotEntry). HoldsNamed es (map (moved_cap at) is.0)) (sym same.registers)
        (holds_moved at p.registers.items is.0 is.1),
    ap (λ (g : Frame). moved_frame at g) is.2 ∙ ap (λ (n : ℕ). first_frame n (content.Annex (map (moved_cap at) is.0))) (sym same.owner),
  )

  pub node_moved : (m n : NodeEntry) (f : Frame) → IsMovedNode at m n → IsDescribedNode m f → IsDescribedNode n (moved_frame at f)
  node_moved m n f same is = (
    map (moved_cap at) is.0,
    subst (λ (es : List SlotEntry). HoldsNamed es (map (moved_cap at) is.0)) (sym same.slots) (holds_moved at m.slots.items is.0 is.1),
    ap (λ (g : Frame). moved_frame at g) is.2 ∙ ap (λ (k : ℕ). first_frame k (content.Node (map (moved_cap at) is.0))) (sym same.owner),
  )

  pub page_moved : (p q : PageEntry) (f : Frame) → IsMovedPage at p q → IsDescribedPage p f → IsDescribedPage q (moved_frame at f)
  page_moved p q f same is = (
    is.0,
    subst (λ (v : Vec WordEntry Global). HasNamedWords v.items is.0) (sym same.words) is.1,
    ap (λ (g : Frame). moved_frame at g) is.2 ∙ ap (λ (k : ℕ). first_frame k (content.Page is.0)) (sym same.owner),
  )

  pub process_fields : (p q : ProcessEntry) → IsMovedProcess at p q → IsProcessEntry p → IsProcessEntry q
  process_fields p q same is = record {
    state = λ none. is.state (sym same.state ∙ none);
    key = subst (λ (n : ℕ). n < 2 ^ 16) (sym same.key) is.key;
    space = subst IsSpaceEntry (sym same.space) (space_entry_moved at p.space is.space);
    registers = subst (AreSlots 1) (sym same.registers) (slots_moved at 1 p.registers.items is.registers);
  }

  pub node_fields : (m n : NodeEntry) → IsMovedNode at m n → AreSlots 0 m.slots.items → AreSlots 0 n.slots.items
  node_fields m n same is = subst (AreSlots 0) (sym same.slots) (slots_moved at 0 m.slots.items is)

  pub page_fields : (p q : PageEntry) → IsMovedPage at p q → AreWords p.words.items → AreWords q.words.items
  page_fields p q same is = subst (λ (v : Vec WordEntry Global). AreWords v.items) (sym same.words) is

-- ---- descriptions

plain_length : (os : List Object) → length (plain_frames os) ≡ length os
unfolding plain_frames
plain_length os = length-map os plain_frame

module _ (d e : Description) (same : IsRenumbered d e) where
  abbrev old : Geometry
  old = d.geometry

  abbrev new : Geometry
  new = e.geometry

  abbrev at : ℕ → ℕ
  at = moved old new

  -- renumbering changes only page numbers: the node numbers are the old ones
  pub nodes_named : node_numbers e ≡ node_numbers d
  nodes_named =
      rw (
        same.banks,
        zip_map (IsMovedProcess at) (λ p. p.root) (λ p. p.root) (λ p q is. is.root) d.processes.items e.processes.items same.processes,
        zip_map (IsMovedProcess at) (λ p. p.annex) (λ p. p.annex) (λ p q is. is.annex) d.processes.items e.processes.items same.processes,
        zip_map (IsMovedNode at) (λ n. n.number) (λ n. n.number) (λ m n is. is.number) d.nodes.items e.nodes.items same.nodes,
      )

  pub pages_named : page_numbers e ≡ map (λ p. at p.number) d.pages.items
  pages_named = zip_map (IsMovedPage at) (λ p. at p.number) (λ p. p.number) (λ p q is. is.number) d.pages.items e.pages.items same.pages

  module _ (has : HasNumbers d) (nodes : NamesNodes new.nodes d) (pages : NamesPages old new d) where
    nodes_below : All (λ n. n < new.nodes) (node_numbers d)
    nodes_below =
        All-append (λ n. n < new.nodes) (map (λ b. b.number) d.banks.items ++ map (λ p. p.root) d.processes.items ++ map (λ p. p.annex)
        d.processes.items)
        (map (λ n. n.number) d.nodes.items)
        (All-append (λ n. n < new.nodes) (map (λ b. b.number) d.banks.items ++ map (λ p. p.root) d.processes.items)
        (map (λ p. p.annex) d.processes.items)
        (All-append (λ n. n < new.nodes) (map (λ b. b.number) d.banks.items) (map (λ p. p.root) d.processes.items)
        (All-map (λ n. n < new.nodes) (λ b. b.number) d.banks.items nodes.banks)
        (All-map (λ n. n < new.nodes) (λ p. p.root) d.processes.items (λ k p inside. (nodes.processes k p inside).0)))
        (All-map (λ n. n < new.nodes) (λ p. p.annex) d.processes.items (λ k p inside. (nodes.processes k p inside).1)))
        (All-map (λ n. n < new.nodes) (λ n. n.number) d.nodes.items nodes.nodes)

    page_range : (p : PageEntry) → Contains d.pages.items p → (old.nodes ≤ p.number) × (p.number < object_count old)
    page_range p there = All-contains (λ (k : ℕ). (old.nodes ≤ k) × (k < object_count old)) _ _ has.pages
        (contains_map (λ q. q.number) p _ there)

    page_fits : (p : PageEntry) → Contains d.pages.items p → at p.number < object_count new
    page_fits p there = All-contains (λ (q : PageEntry). at q.number < object_count new) d.pages.items p pages there

    pages_above : All (λ n. (new.nodes ≤ n) × (n < object_count new)) (map (λ p. at p.number) d.pages.items)
    pages_above = All-map (λ n. (new.nodes ≤ n) × (n < object_count new)) (λ p. at p.number) d.pages.items
        (all_from (λ (p : PageEntry). (new.nodes ≤ at p.number) × (at p.number < object_count new)) d.pages.items (λ p there.
        let range = page_range p there in
        let is = page_moves old new p.number range.0 range.1 in
        (omega (arith, is), page_fits p there)))

    pages_distinct : AreDistinct (map (λ p. at p.number) d.pages.items)
    pages_distinct = distinct_other (λ p. p.number) (λ p. at p.number) _ (distinct_right _ _ has.distinct) (λ p q here there is.
        let one = page_range p here in
        let other = page_range q there in
        let one_is = page_moves old new _ one.0 one.1 in
        let other_is = page_moves old new _ other.0 other.1 in
        omega (arith, one.0, other.0, is, one_is, other_is))

    pub numbers_grown : HasNumbers e
    numbers_grown = grind (
      arith,
      nat_tests,
      nodes_named,
      nodes_below,
      pages_named,
      pages_above,
      distinct_both,
      distinct_left,
      pages_distinct,
      All-contains,
    )

    -- the parameters: the objects of the described world
    module _ (os : List Object) (count : length os ≡ object_count old) (is : IsDescribed d (plain_frames os)) where
      abbrev vs : List Object
      vs = grown_objects old new os count

      node_frame : (n : ℕ) → n < old.nodes → n < new.nodes → frame_at (plain_frames vs) n ≡ moved_frame at (frame_at (plain_frames os) n)
      node_frame n below fits =
          ap (λ (k : ℕ). frame_at (plain_frames vs) k) (sym (node_stays old new n below))
          ∙ frame_arrived old new os count n (node_arrives old new n below fits)

      -- if a number stays, the frame there is the old one with its capabilities renumbered
      entry_frame : (n : ℕ) (f : Frame) → n < old.nodes → n < new.nodes → frame_at (plain_frames os) n ≡ f →
          frame_at (plain_frames vs) n ≡ moved_frame at f
      entry_frame n f below fits same_frame = node_frame n below fits ∙ ap (λ (h : Frame). moved_frame at h) same_frame

      banks_grown : All (λ b. frame_at (plain_frames vs) b.number ≡ first_frame b.owner (content.Bank b.limit)) d.banks.items
      banks_grown = all_from (λ (b : BankEntry). frame_at (plain_frames vs) b.number ≡ first_frame b.owner (content.Bank b.limit))
          d.banks.items (λ b there.
          entry_frame b.number (first_frame b.owner (content.Bank b.limit)) (in_range d (OfBank b) has there)
          (All-contains (λ (c : BankEntry). c.number < new.nodes) d.banks.items b nodes.banks there)
          (described_of d (plain_frames os) (OfBank b) is there))

      abbrev RootOk : ProcessEntry → Type 0
      RootOk p = IsDescribedRoot p (frame_at (plain_frames os) p.root) × (p.root < old.nodes) × (p.root < new.nodes)

      roots_grown : All (λ p. IsDescribedRoot p (frame_at (plain_frames vs) p.root)) e.processes.items
      roots_grown = zip_all (IsMovedProcess at) RootOk (λ (p : ProcessEntry). IsDescribedRoot p (frame_at (plain_frames vs) p.root))
          (λ p q moves good. rw moves.root (rw (node_frame p.root good.1 good.2)
          (root_moved at p q (frame_at (plain_frames os) p.root) moves good.0)))
          d.processes.items e.processes.items same.processes (all_from RootOk d.processes.items (λ p there. (
            described_of d (plain_frames os) (OfRoot p) is there,
            in_range d (OfRoot p) has there,
            (All-contains (λ (q : ProcessEntry). (q.root < new.nodes) × (q.annex < new.nodes)) d.processes.items p nodes.processes there).0,
          )))

      abbrev AnnexOk : ProcessEntry → Type 0
      AnnexOk p = IsDescribedAnnex p (frame_at (plain_frames os) p.annex) × (p.annex < old.nodes) × (p.annex < new.nodes)

      annexes_grown : All (λ p. IsDescribedAnnex p (frame_at (plain_frames vs) p.annex)) e.processes.items
      annexes_grown = zip_all (IsMovedProcess at) AnnexOk (λ (p : ProcessEntry). IsDescribedAnnex p (frame_at (plain_frames vs) p.annex))
          (λ p q moves good. rw moves.annex (rw (node_frame p.annex good.1 good.2)
          (annex_moved at p q (frame_at (plain_frames os) p.annex) moves good.0)))
          d.processes.items e.processes.items same.processes (all_from AnnexOk d.processes.items (λ p there. (
            described_of d (plain_frames os) (OfAnnex p) is there,
            in_range d (OfAnnex p) has there,
            (All-contains (λ (q : ProcessEntry). (q.root < new.nodes) × (q.annex < new.nodes)) d.processes.items p nodes.processes there).1,
          )))

      abbrev NodeOk : NodeEntry → Type 0
      NodeOk n = IsDescribedNode n (frame_at (plain_frames os) n.number) × (n.number < old.nodes) × (n.number < new.nodes)

      nodes_grown : All (λ n. IsDescribedNode n (frame_at (plain_frames vs) n.number)) e.nodes.items
      nodes_grown = zip_all (IsMovedNode at) NodeOk (λ (n : NodeEntry). IsDescribedNode n (frame_at (plain_frames vs) n.number))
          (λ m n moves good. rw moves.number (rw (node_frame m.number good.1 good.2)
          (node_moved at m n (frame_at (plain_frames os) m.number) moves good.0)))
          d.nodes.items e.nodes.items same.nodes (all_from NodeOk d.nodes.items (λ n there. (
            described_of d (plain_frames os) (OfNode n) is there,
            in_range d (OfNode n) has there,
            All-contains (λ (m : NodeEntry). m.number < new.nodes) d.nodes.items n nodes.nodes there,
          )))

      abbrev PageOk : PageEntry → Type 0
      PageOk p = IsDescribedPage p (frame_at (plain_frames os) p.number) × (old.nodes ≤ p.number) × (p.number < object_count old) ×
          (at p.number < object_count new)

      pages_grown : All (λ p. IsDescribedPage p (frame_at (plain_frames vs) p.number)) e.pages.items
      pages_grown = zip_all (IsMovedPage at) PageOk (λ (p : PageEntry). IsDescribedPage p (frame_at (plain_frames vs) p.number))
          (λ p q moves good. rw moves.number (rw (frame_arrived old new os count p.number
          (page_arrives old new p.number good.1 good.2 good.3))
          (page_moved at p q (frame_at (plain_frames os) p.number) moves good.0)))
          d.pages.items e.pages.items same.pages (all_from PageOk d.pages.items (λ p there.
          let range = page_range p there in
          (described_of d (plain_frames os) (OfPage p) is there, range.0, range.1, page_fits p there)))

      -- if an object's old number has an entry, its new number has one
      comes_named : (m : ℕ) → m < object_count new → Contains (node_numbers d ++ page_numbers d) (origin old new m) →
          Contains (node_numbers e ++ page_numbers e) m
      comes_named m below there = elim (Contains-append_cases _ _ _ there) [
        | inl node ↦
            let small : origin old new m < old.nodes = All-contains (λ (k : ℕ). k < old.nodes) _ _ has.nodes node in
            let back : at (origin old new m) ≡ m = comes_from old new m (omega (arith, small)) in
            let stays : origin old new m ≡ m = sym (node_stays old new _ small) ∙ back in
            Contains-append_left _ _ m (subst (λ (ns : List ℕ). Contains ns m) (sym nodes_named)
            (subst (Contains (node_numbers d)) stays node))
        | inr page ↦
            let range = All-contains (λ (k : ℕ). (old.nodes ≤ k) × (k < object_count old)) _ _ has.pages page in
            let back : at (origin old new m) ≡ m = comes_from old new m range.1 in
            let found = map_contains (λ p. p.number) _ _ page in
            let number : at found.0.number ≡ m = ap (λ (k : ℕ). at k) found.2 ∙ back in
            Contains-append_right _ _ m (subst (λ (ns : List ℕ). Contains ns m) (sym pages_named)
            (subst (Contains (map (λ p. at p.number) d.pages.items)) number (contains_map (λ p. at p.number) _ _ found.1)))
      ]

      others_grown : (m : ℕ) → (Contains (node_numbers e ++ page_numbers e) m → ⊥) → frame_at (plain_frames vs) m ≡ blank_frame
      others_grown m none = elim (cases_lt m (object_count new)) [
        | inl below ↦ frame_inside old new os count m below
            ∙ ap (λ (f : Frame). moved_frame at f) (is.others (origin old new m) (λ there. none (comes_named m below there)))
        | inr past ↦ frame_past old new os count m past
      ]

      pub frames_grown : IsDescribed e (plain_frames vs)
      frames_grown = grind (
        arith,
        nat_tests,
        plain_length,
        grown_length,
        banks_grown,
        roots_grown,
        annexes_grown,
        nodes_grown,
        pages_grown,
        others_grown,
      )

  pub fields_grown : HasFields d → HasFields e
  fields_grown fields = record {
    processes = zip_all (IsMovedProcess at) IsProcessEntry IsProcessEntry (process_fields at) _ _ same.processes fields.processes;
    nodes = zip_all (IsMovedNode at) (λ (n : NodeEntry). AreSlots 0 n.slots.items) (λ (n : NodeEntry). AreSlots 0 n.slots.items)
        (node_fields at) _
        _ same.nodes fields.nodes;
    pages = zip_all (IsMovedPage at) (λ (p : PageEntry). AreWords p.words.items) (λ (p : PageEntry). AreWords p.words.items)
        (page_fields at) _
        _ same.pages fields.pages;
  }

  rising_pages : (ps : List PageEntry) → ((p : PageEntry) → Contains ps p → (old.nodes ≤ p.number) × (p.number < object_count old)) →
      AreRising (map (λ p. p.number) ps) → AreRising (map (λ p. at p.number) ps)
  rising_pages [] range rising = tt
  rising_pages (p ∷ ps) range rising = (
    All-map (λ n. at p.number < n) (λ q. at q.number) ps (all_from (λ (q : PageEntry). at p.number < at q.number) ps (λ q there.
        let less : p.number < q.number = All-contains (λ (n : ℕ). p.number < n) _ _ rising.0 (contains_map (λ r. r.number) q ps there) in
        let one = range p (contains_here p ps) in
        let other = range q (contains_there q p ps there) in
        let one_is = page_moves old new _ one.0 one.1 in
        let other_is = page_moves old new _ other.0 other.1 in
        omega (arith, less, one.0, other.0, one_is, other_is))),
    rising_pages ps (λ q there. range q (contains_there q p ps there)) rising.1,
  )

  pub brief_grown : HasNumbers d → IsBrief d → IsBrief e
  brief_grown has brief = record {
    banks = rw same.banks brief.banks;
    processes = rw (zip_map (IsMovedProcess at) (λ p. p.root) (λ p. p.root) (λ p q moves. moves.root) _ _ same.processes) brief.processes;
    nodes = rw (zip_map (IsMovedNode at) (λ n. n.number) (λ n. n.number) (λ m n moves. moves.number) _ _ same.nodes) brief.nodes;
    pages = rw pages_named (rising_pages _ (λ p there. All-contains (λ (k : ℕ). (old.nodes ≤ k) × (k < object_count old)) (page_numbers d)
        p.number has.pages
        (contains_map (λ q. q.number) p _ there)) brief.pages);
    registers = zip_all (IsMovedProcess at) (λ (p : ProcessEntry). AreBriefSlots p.registers.items)
        (λ (p : ProcessEntry). AreBriefSlots p.registers.items)
        (λ p q moves good. rw moves.registers (brief_moved at _ good)) _ _ same.processes brief.registers;
    slots = zip_all (IsMovedNode at) (λ (n : NodeEntry). AreBriefSlots n.slots.items) (λ (n : NodeEntry). AreBriefSlots n.slots.items)
        (λ m n moves good. rw moves.slots (brief_moved at _ good)) _ _ same.nodes brief.slots;
    words = zip_all (IsMovedPage at) (λ (p : PageEntry). AreBriefWords p.words.items) (λ (p : PageEntry). AreBriefWords p.words.items)
        (λ p q moves good. rw moves.words good) _ _ same.pages brief.words;
  }
