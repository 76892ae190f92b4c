-- If entries describe all objects of a sound world, they form a description of it.
use Rattle.image_describer.proofs.Names.{ℕ, inl, inr, List, map, length, Option, None, Some, slice_index_or, refl, sym, ap, subst, arith, IsTrue, All, Contains}
use Rattle.image_describer.proofs.Names.{get_or-map, cases_lt, length-map, All-append, All-contains, All-map, All-weaker, Contains-append_left}
use Rattle.image_describer.proofs.Names.{Contains-append_right, slice_get-get_or, slice_get-map, Cap, Capability, Void, Geometry, Content, Object, Role}
use Rattle.image_describer.proofs.Names.{IsWellFormed, blank_frame, frame_at, free, is_annex, is_free, is_root, role_of, root_in, slots_in, HasShape, IsOfKind}
use Rattle.image_describer.proofs.Names.{IsSound, IsSpace, MayBeHeld, object_count, World, annex_at, content_at, is_process, object_at, fresh_cap, BankEntry}
use Rattle.image_describer.proofs.Names.{Description, NodeEntry, PageEntry, ProcessEntry, SlotEntry, WordEntry, AreDistinct, AreSlots, AreWords, HasFields}
use Rattle.image_describer.proofs.Names.{HasNamedWords, HasNumbers, HoldsNamed, IsDescribed, IsDescribedAnnex, IsDescribedNode, IsDescribedPage}
use Rattle.image_describer.proofs.Names.{IsDescribedRoot, IsProcessEntry, IsSomeCapability, IsSpaceEntry, first_frame, node_numbers, page_numbers, all_from}
use Rattle.image_describer.proofs.Names.{contains_map, map_contains, AreBriefSlots, AreBriefWords, IsBrief, NamesSlots, NamesWords, Describes, plain_frame}
use Rattle.image_describer.proofs.Names.{plain_frames, TellAll, TellsBank, TellsNode, TellsPage, TellsProcess, unwrap_or}
use Rattle.std.proofs.Common.{◌≡◌, ◌≢◌, ◌⊎◌, ◌<◌, ◌≤◌, ◌++◌, ◌∙◌}
use Rattle.std.specs.Option.{option_map}
use Rattle.model.specs.declared.object.Content.TheVariants as content
use Rattle.model.specs.declared.object.Role.TheVariants as role
use Rattle.image_describer.proofs.Naming.{named_is}
use Rattle.image_describer.proofs.Rising.{apart_by, distinct_both, distinct_other, rising_distinct}

-- The parameters: slots, and entries that name them.
module _ (slots : List Capability) (es : List SlotEntry) (names : NamesSlots slots es) where
  slot_value : (s : SlotEntry) → Contains es s → unwrap_or s.capability Void ≡ slice_index_or slots s.index Void
  slot_value s there = named_is (λ s. s.index) (λ s. unwrap_or s.capability Void) Void slots es s names there

  slot_some : (s : SlotEntry) → Contains es s → unwrap_or s.capability Void ≢ Void
  slot_some s there = All-contains (λ (t : SlotEntry). unwrap_or t.capability Void ≢ Void) es s names.some there

  held_is : (o : Option Capability) (c : Capability) → unwrap_or o Void ≡ c → unwrap_or o Void ≢ Void → IsWellFormed c → IsSomeCapability o
  held_is None c is some well = absurd (some refl)
  held_is (Some d) c is some well = subst IsWellFormed (sym is) well

  pub slots_are : (first : ℕ) → length slots ≡ 32 → ((i : ℕ) → IsWellFormed (slice_index_or slots i Void)) →
      ((i : ℕ) → i < first → slice_index_or slots i Void ≡ Void) → AreSlots first es
  slots_are first count well void = record {
    places = all_from (λ (s : SlotEntry). (first ≤ s.index) × (s.index < 32)) es (λ s there.
        let within : s.index < length slots = All-contains (λ (t : SlotEntry). t.index < length slots) es s names.within there in (
          elim (cases_lt s.index first) [
            | inl under ↦ absurd (slot_some s there (slot_value s there ∙ void s.index under))
            | inr past ↦ past
          ],
          omega (arith, within, count),
        ));
    distinct = rising_distinct (map (λ s. s.index) es) names.rising;
    held = all_from (λ (s : SlotEntry). IsSomeCapability s.capability) es
        (λ s there. held_is s.capability (slice_index_or slots s.index Void) (slot_value s there) (slot_some s there) (well s.index));
  }

  pub slots_held : length slots ≡ 32 → HoldsNamed es (map fresh_cap slots)
  slots_held count = record {
    count = length-map slots fresh_cap ∙ count;
    each = λ i under.
        slice_get-map fresh_cap slots i
        ∙ ap (option_map fresh_cap) (slice_get-get_or slots i Void (omega (arith, under, count)))
        ∙ ap (λ (c : Capability). let x : Option Cap = Some (fresh_cap c) in x) (sym (names.each i));
  }

  pub slots_brief : AreBriefSlots es
  slots_brief = (
    names.rising,
    all_from (λ (s : SlotEntry). s.capability ≢ Some Void) es (λ s there is. slot_some s there
        (ap (λ (o : Option Capability). unwrap_or o Void) is)),
  )

module _ (words : List ℕ) (es : List WordEntry) (names : NamesWords words es) (count : length words ≡ 512) where
  pub words_are : AreWords es
  words_are = record {
    places = All-weaker (λ (w : WordEntry). w.index < length words) (λ (w : WordEntry). w.index < 512)
        (λ w under. omega (arith, under, count)) es names.within;
    distinct = rising_distinct (map (λ w. w.index) es) names.rising;
  }

  pub words_held : HasNamedWords es words
  words_held = record {
    count = count;
    each = λ i under. slice_get-get_or words i 0 (omega (arith, under, count))
        ∙ ap (λ (w : ℕ). let x : Option ℕ = Some w in x) (sym (names.each i));
  }

-- The parameters: a sound world.
module _ (g : Geometry) (w : World) (sound : IsSound g w) where
  kind_of : ℕ → Role
  kind_of n = role_of (content_at w.objects n)

  content_reported : (n owner : ℕ) (c : Content Capability) → object_at w.objects n ≡ record { owner = owner; content = c } →
      content_at w.objects n ≡ c
  content_reported n owner c is = ap (λ (o : Object). o.content) is

  kind_reported : (n owner : ℕ) (c : Content Capability) → object_at w.objects n ≡ record { owner = owner; content = c } → IsOfKind g n c
  kind_reported n owner c is = subst (λ (d : Content Capability). IsOfKind g n d) (content_reported n owner c is) (sound.kinds n)

  shape_reported : (n owner : ℕ) (c : Content Capability) → object_at w.objects n ≡ record { owner = owner; content = c } → HasShape c
  shape_reported n owner c is = subst HasShape (content_reported n owner c is) (sound.shapes n)

  slots_reported : (n owner : ℕ) (c : Content Capability) → object_at w.objects n ≡ record { owner = owner; content = c } → (i : ℕ) →
      IsWellFormed (slice_index_or (slots_in c) i Void)
  slots_reported n owner c is i = rw (← content_reported n owner c is) (sound.slots n i).0

  register_reported : (n owner : ℕ) (registers : List Capability) → object_at w.objects n
      ≡ record { owner = owner; content = content.Annex registers } → (i : ℕ) → i < 1 → slice_index_or registers i Void ≡ Void
  register_reported n owner registers is i under =
      let first : 0 ≡ i = omega (arith, under) in
      let annex : IsTrue (is_annex (content_at w.objects n)) = ap is_annex (content_reported n owner _ is) in
      subst (λ (k : ℕ). slice_index_or registers k Void ≡ Void) first
      (subst (λ (d : Content Capability). slice_index_or (slots_in d) 0 Void ≡ Void) (content_reported n owner _ is)
      (sound.register_0 n annex))

  plain_reported : (n : ℕ) (o : Object) → object_at w.objects n ≡ o → frame_at (plain_frames w.objects) n ≡ plain_frame o
  unfolding plain_frames
  plain_reported n o is = get_or-map plain_frame w.objects n free ∙ ap plain_frame is

  module _ (d : Description) (geometry : d.geometry ≡ g) (age : d.age ≡ w.age)
      (banks : TellAll (λ b. b.number) (TellsBank w.objects) role.Bank w.objects d.banks.items)
      (processes : TellAll (λ p. p.root) (TellsProcess w.objects) role.Root w.objects d.processes.items)
      (nodes : TellAll (λ n. n.number) (TellsNode w.objects) role.Node w.objects d.nodes.items)
      (pages : TellAll (λ p. p.number) (TellsPage w.objects) role.Page w.objects d.pages.items) where
    bank_reported : (b : BankEntry) → Contains d.banks.items b → TellsBank w.objects b
    bank_reported b there = All-contains (TellsBank w.objects) d.banks.items b banks.each there

    process_reported : (p : ProcessEntry) → Contains d.processes.items p → TellsProcess w.objects p
    process_reported p there = All-contains (TellsProcess w.objects) d.processes.items p processes.each there

    node_reported : (n : NodeEntry) → Contains d.nodes.items n → TellsNode w.objects n
    node_reported n there = All-contains (TellsNode w.objects) d.nodes.items n nodes.each there

    page_reported : (p : PageEntry) → Contains d.pages.items p → TellsPage w.objects p
    page_reported p there = All-contains (TellsPage w.objects) d.pages.items p pages.each there

    -- the numbers of the described banks
    bank_numbers : List ℕ
    bank_numbers = map (λ b. b.number) d.banks.items

    root_numbers : List ℕ
    root_numbers = map (λ p. p.root) d.processes.items

    annex_numbers : List ℕ
    annex_numbers = map (λ p. p.annex) d.processes.items

    plain_numbers : List ℕ
    plain_numbers = map (λ n. n.number) d.nodes.items

    -- if P holds of the number of each entry, it holds of all node numbers
    all_nodes : (P : ℕ → Type 0) → ((b : BankEntry) → Contains d.banks.items b → P b.number) →
        ((p : ProcessEntry) → Contains d.processes.items p → P p.root) → ((p : ProcessEntry) → Contains d.processes.items p → P p.annex) →
        ((n : NodeEntry) → Contains d.nodes.items n → P n.number) → All P (node_numbers d)
    all_nodes P bank root annex node =
        All-append P (map (λ b. b.number) d.banks.items ++ map (λ p. p.root) d.processes.items ++ map (λ p. p.annex) d.processes.items)
        (map (λ n. n.number) d.nodes.items)
        (All-append P (map (λ b. b.number) d.banks.items ++ map (λ p. p.root) d.processes.items) (map (λ p. p.annex) d.processes.items)
        (All-append P (map (λ b. b.number) d.banks.items) (map (λ p. p.root) d.processes.items)
        (All-map P (λ b. b.number) d.banks.items (all_from (λ (b : BankEntry). P b.number) d.banks.items bank))
        (All-map P (λ p. p.root) d.processes.items (all_from (λ (p : ProcessEntry). P p.root) d.processes.items root)))
        (All-map P (λ p. p.annex) d.processes.items (all_from (λ (p : ProcessEntry). P p.annex) d.processes.items annex)))
        (All-map P (λ n. n.number) d.nodes.items (all_from (λ (n : NodeEntry). P n.number) d.nodes.items node))

    -- each described object has the kind of its entry
    bank_kind : (b : BankEntry) → Contains d.banks.items b → kind_of b.number ≡ role.Bank
    unfolding kind_of
    bank_kind b there = ap role_of (content_reported b.number b.owner (content.Bank b.limit) (bank_reported b there))

    root_kind : (p : ProcessEntry) → Contains d.processes.items p → kind_of p.root ≡ role.Root
    unfolding kind_of
    root_kind p there = ap role_of (content_reported p.root p.owner _ (process_reported p there).0.4)

    annex_kind : (p : ProcessEntry) → Contains d.processes.items p → kind_of p.annex ≡ role.Annex
    unfolding kind_of
    annex_kind p there = ap role_of (content_reported p.annex p.owner _ (process_reported p there).1.2)

    node_kind : (n : NodeEntry) → Contains d.nodes.items n → kind_of n.number ≡ role.Node
    unfolding kind_of
    node_kind n there = ap role_of (content_reported n.number n.owner _ (node_reported n there).2)

    page_kind : (p : PageEntry) → Contains d.pages.items p → kind_of p.number ≡ role.Page
    unfolding kind_of
    page_kind p there = ap role_of (content_reported p.number p.owner _ (page_reported p there).2)

    annex_is : (p : ProcessEntry) → Contains d.processes.items p → annex_at w.objects p.root ≡ p.annex
    annex_is p there = ap (λ (c : Content Capability). (root_in c).annex) (content_reported p.root p.owner _ (process_reported p there).0.4)

    process_is : (p : ProcessEntry) → Contains d.processes.items p → IsTrue (is_process w.objects p.root)
    process_is p there = ap is_root (content_reported p.root p.owner _ (process_reported p there).0.4)

    annexes_distinct : AreDistinct (map (λ p. p.annex) d.processes.items)
    annexes_distinct = distinct_other (λ p. p.root) (λ p. p.annex) d.processes.items
        (rising_distinct (map (λ p. p.root) d.processes.items) processes.rising)
        (λ p q one other same. sound.one_root p.root q.root (process_is p one) (process_is q other)
        (annex_is p one ∙ same ∙ sym (annex_is q other)))

    -- a number isn't of two kinds
    other_kind : (r s : Role) (n : ℕ) → r ≢ s → kind_of n ≡ r → kind_of n ≡ s → ⊥
    other_kind r s n differ one other = differ (sym one ∙ other)

    numbers_distinct : AreDistinct (node_numbers d ++ page_numbers d)
    numbers_distinct =
        let B : List ℕ = map (λ b. b.number) d.banks.items in
        let R : List ℕ = map (λ p. p.root) d.processes.items in
        let A : List ℕ = map (λ p. p.annex) d.processes.items in
        let N : List ℕ = map (λ n. n.number) d.nodes.items in
        let P : List ℕ = map (λ p. p.number) d.pages.items in
        let roots : All (λ n. kind_of n ≡ role.Root) R = All-map (λ n. kind_of n ≡ role.Root) (λ p. p.root) d.processes.items
        (all_from (λ (p : ProcessEntry). kind_of p.root ≡ role.Root) _ root_kind) in
        let annexes : All (λ n. kind_of n ≡ role.Annex) A = All-map (λ n. kind_of n ≡ role.Annex) (λ p. p.annex) d.processes.items
        (all_from (λ (p : ProcessEntry). kind_of p.annex ≡ role.Annex) _ annex_kind) in
        let plain : All (λ n. kind_of n ≡ role.Node) N = All-map (λ n. kind_of n ≡ role.Node) (λ n. n.number) d.nodes.items
        (all_from (λ (n : NodeEntry). kind_of n.number ≡ role.Node) _ node_kind) in
        let paged : All (λ n. kind_of n ≡ role.Page) P = All-map (λ n. kind_of n ≡ role.Page) (λ p. p.number) d.pages.items
        (all_from (λ (p : PageEntry). kind_of p.number ≡ role.Page) _ page_kind) in
        let no_banks : (s : Role) → role.Bank ≢ s → All (λ n. kind_of n ≡ s → ⊥) B =
        λ s differ. All-map (λ n. kind_of n ≡ s → ⊥) (λ b. b.number) d.banks.items
        (all_from (λ (b : BankEntry). kind_of b.number ≡ s → ⊥) _ (λ b there is. other_kind role.Bank s b.number differ (bank_kind b there)
        is)) in
        let no_roots : (s : Role) → role.Root ≢ s → All (λ n. kind_of n ≡ s → ⊥) R =
        λ s differ. All-map (λ n. kind_of n ≡ s → ⊥) (λ p. p.root)
        d.processes.items
        (all_from (λ (p : ProcessEntry). kind_of p.root ≡ s → ⊥) _ (λ p there is. other_kind role.Root s p.root differ (root_kind p there)
        is)) in
        let no_annexes : (s : Role) → role.Annex ≢ s → All (λ n. kind_of n ≡ s → ⊥) A =
        λ s differ. All-map (λ n. kind_of n ≡ s → ⊥) (λ p. p.annex)
        d.processes.items (all_from (λ (p : ProcessEntry). kind_of p.annex ≡ s → ⊥) _
        (λ p there is. other_kind role.Annex s p.annex differ (annex_kind p there) is)) in
        let none_page : All (λ n. kind_of n ≡ role.Page → ⊥) (node_numbers d) = all_nodes (λ n. kind_of n ≡ role.Page → ⊥)
        (λ b there is. other_kind role.Bank role.Page b.number (λ e. cc) (bank_kind b there) is)
        (λ p there is. other_kind role.Root role.Page p.root (λ e. cc) (root_kind p there) is)
        (λ p there is. other_kind role.Annex role.Page p.annex (λ e. cc) (annex_kind p there) is)
        (λ n there is. other_kind role.Node role.Page n.number (λ e. cc) (node_kind n there) is) in
        distinct_both _ P (distinct_both _ N (distinct_both _ A (distinct_both B R (rising_distinct B banks.rising)
        (rising_distinct R processes.rising)
        (apart_by (λ n. kind_of n ≡ role.Root) B R (no_banks role.Root (λ e. cc)) roots)) annexes_distinct
        (apart_by (λ n. kind_of n ≡ role.Annex) _ A
        (All-append (λ n. kind_of n ≡ role.Annex → ⊥) B R (no_banks role.Annex (λ e. cc)) (no_roots role.Annex (λ e. cc))) annexes))
        (rising_distinct N nodes.rising) (apart_by (λ n. kind_of n ≡ role.Node) _ N (All-append (λ n. kind_of n ≡ role.Node → ⊥) (B ++ R) A
        (All-append (λ n. kind_of n ≡ role.Node → ⊥) B R (no_banks role.Node (λ e. cc)) (no_roots role.Node (λ e. cc)))
        (no_annexes role.Node (λ e. cc)))
        plain)) (rising_distinct P pages.rising) (apart_by (λ n. kind_of n ≡ role.Page) _ P none_page paged)

    numbers_reported : HasNumbers d
    numbers_reported = record {
      nodes = rw geometry (all_nodes (λ n. n < g.nodes) (λ b there. kind_reported b.number b.owner (content.Bank b.limit)
          (bank_reported b there))
          (λ p there. kind_reported p.root p.owner _ (process_reported p there).0.4)
          (λ p there. kind_reported p.annex p.owner _ (process_reported p there).1.2)
          (λ n there. kind_reported n.number n.owner _ (node_reported n there).2));
      pages = rw geometry (All-map (λ n. (g.nodes ≤ n) × (n < object_count g)) (λ p. p.number) d.pages.items
          (all_from (λ (p : PageEntry). (g.nodes ≤ p.number) × (p.number < object_count g)) d.pages.items
          (λ p there. kind_reported p.number p.owner _ (page_reported p there).2)));
      distinct = numbers_distinct;
    }

    -- each address space is valid, and so are the other fields
    space_reported : (p : ProcessEntry) → Contains d.processes.items p → IsSpaceEntry p.space
    space_reported p there =
        let root = (process_reported p there).0 in
        let held : MayBeHeld w.objects root.1 × IsSpace root.1 =
        subst (λ (c : Content Capability). MayBeHeld w.objects (root_in c).space × IsSpace (root_in c).space)
        (content_reported p.root p.owner _ root.4)
        (sound.spaces p.root) in
        subst IsSpaceEntry (sym root.3) (held.0.0, held.1)

    registers_reported : (p : ProcessEntry) → Contains d.processes.items p → AreSlots 1 p.registers.items
    registers_reported p there =
        let annex = (process_reported p there).1 in
        slots_are _ _ annex.1 1 (shape_reported _ _ _ annex.2) (slots_reported _ _ _ annex.2) (register_reported _ _ _ annex.2)

    fields_reported : HasFields d
    fields_reported = record {
      processes = all_from IsProcessEntry _ (λ p there.
          let root = (process_reported p there).0 in
          record {
            state = λ none. let wrong : Some root.0 ≡ None = sym root.2 ∙ none in cc;
            key = (shape_reported _ _ _ root.4).2;
            space = space_reported p there;
            registers = registers_reported p there;
          });
      nodes = all_from (λ (n : NodeEntry). AreSlots 0 n.slots.items) _ (λ n there.
          let node = node_reported n there in
          slots_are _ _ node.1 0 (shape_reported _ _ _ node.2) (slots_reported _ _ _ node.2) (λ i under. absurd (omega (arith, under))));
      pages = all_from (λ (p : PageEntry). AreWords p.words.items) _ (λ p there.
          let page = page_reported p there in
          words_are _ _ page.1 (shape_reported _ _ _ page.2));
    }

    -- a number in one of the four lists is a node number of the description
    in_nodes : (n : ℕ) → (Contains bank_numbers n) ⊎ (Contains root_numbers n) ⊎ (Contains annex_numbers n) ⊎ (Contains plain_numbers n) →
        Contains (node_numbers d) n
    unfolding bank_numbers root_numbers annex_numbers plain_numbers
    in_nodes n (inl bank) = Contains-append_left _ _ n (Contains-append_left _ _ n (Contains-append_left _ _ n bank))
    in_nodes n (inr (inl root)) =
        Contains-append_left (map (λ b. b.number) d.banks.items ++ map (λ p. p.root) d.processes.items ++ map (λ p. p.annex)
        d.processes.items)
        (map (λ n. n.number) d.nodes.items) n
        (Contains-append_left (map (λ b. b.number) d.banks.items ++ map (λ p. p.root) d.processes.items)
        (map (λ p. p.annex) d.processes.items) n
        (Contains-append_right (map (λ b. b.number) d.banks.items) (map (λ p. p.root) d.processes.items) n root))
    in_nodes n (inr (inr (inl annex))) =
        Contains-append_left (map (λ b. b.number) d.banks.items ++ map (λ p. p.root) d.processes.items ++ map (λ p. p.annex)
        d.processes.items)
        (map (λ n. n.number) d.nodes.items) n
        (Contains-append_right (map (λ b. b.number) d.banks.items ++ map (λ p. p.root) d.processes.items)
        (map (λ p. p.annex) d.processes.items) n annex)
    in_nodes n (inr (inr (inr node))) =
        Contains-append_right (map (λ b. b.number) d.banks.items ++ map (λ p. p.root) d.processes.items ++ map (λ p. p.annex)
        d.processes.items)
        (map (λ n. n.number) d.nodes.items) n node

    named_node : (n : ℕ) → Contains (node_numbers d) n → Contains (node_numbers d ++ page_numbers d) n
    named_node n there = Contains-append_left (node_numbers d) (page_numbers d) n there

    -- each annex is the annex of a described process
    annex_named : (a : ℕ) (registers : List Capability) → content_at w.objects a ≡ content.Annex registers → Contains annex_numbers a
    unfolding annex_numbers
    annex_named a registers is =
        let found = sound.some_root a (ap is_annex is) in
        let root : role_of (content_at w.objects found.0) ≡ role.Root = root_role (content_at w.objects found.0) found.1 in
        let entry = map_contains (λ p. p.root) found.0 d.processes.items (processes.whole found.0 root) in
        let annex : entry.0.annex ≡ a = sym (annex_is entry.0 entry.1) ∙ ap (annex_at w.objects) entry.2 ∙ found.2 in
        subst (Contains (map (λ p. p.annex) d.processes.items)) annex (contains_map (λ p. p.annex) entry.0 d.processes.items entry.1)
      where
        root_role : (c : Content Capability) → IsTrue (is_root c) → role_of c ≡ role.Root
        root_role (content.Root r) is = refl
        root_role other is = absurd cc

    -- a number without an entry is free
    other_free : (n : ℕ) (c : Content Capability) → content_at w.objects n ≡ c → (Contains (node_numbers d ++ page_numbers d) n → ⊥) →
        c ≡ content.Free
    unfolding bank_numbers root_numbers plain_numbers
    other_free n content.Free is none = refl
    other_free n (content.Page words) is none = absurd (none (Contains-append_right (node_numbers d) (page_numbers d) n
        (pages.whole n (ap role_of is))))
    other_free n (content.Node slots) is none = absurd (none (named_node n (in_nodes n (inr (inr (inr (nodes.whole n (ap role_of is))))))))
    other_free n (content.Root r) is none = absurd (none (named_node n (in_nodes n (inr (inl (processes.whole n (ap role_of is)))))))
    other_free n (content.Annex registers) is none = absurd (none (named_node n
        (in_nodes n (inr (inr (inl (annex_named n registers is)))))))
    other_free n (content.Bank limit) is none = absurd (none (named_node n (in_nodes n (inl (banks.whole n (ap role_of is))))))

    free_object : (o : Object) → o.content ≡ content.Free → o.owner ≡ 0 → o ≡ free
    free_object o held owner =
        ap (λ (c : Content Capability). let x : Object = record { owner = o.owner; content = c } in x) held
        ∙ ap (λ (n : ℕ). let x : Object = record { owner = n; content = content.Free } in x) owner

    blank_other : (n : ℕ) → (Contains (node_numbers d ++ page_numbers d) n → ⊥) → frame_at (plain_frames w.objects) n ≡ blank_frame
    blank_other n none =
        let held : content_at w.objects n ≡ content.Free = other_free n (content_at w.objects n) refl none in
        plain_reported n free (free_object (object_at w.objects n) held (sound.unowned n (ap is_free held)))

    frames_reported : IsDescribed d (plain_frames w.objects)
    unfolding plain_frames
    frames_reported = record {
      count = length-map w.objects plain_frame ∙ sound.size ∙ ap object_count (sym geometry);
      banks = all_from (λ (b : BankEntry). frame_at (plain_frames w.objects) b.number ≡ first_frame b.owner (content.Bank b.limit))
          d.banks.items (λ b there.
          plain_reported b.number _ (bank_reported b there));
      roots = all_from (λ (p : ProcessEntry). IsDescribedRoot p (frame_at (plain_frames w.objects) p.root)) d.processes.items (λ p there.
          let root = (process_reported p there).0 in
          (root.0, root.1, root.2, root.3, plain_reported p.root _ root.4));
      annexes = all_from (λ (p : ProcessEntry). IsDescribedAnnex p (frame_at (plain_frames w.objects) p.annex)) d.processes.items
          (λ p there.
          let annex = (process_reported p there).1 in (
            map fresh_cap annex.0,
            slots_held annex.0 p.registers.items annex.1 (shape_reported p.annex p.owner _ annex.2),
            plain_reported p.annex _ annex.2,
          ));
      nodes = all_from (λ (n : NodeEntry). IsDescribedNode n (frame_at (plain_frames w.objects) n.number)) d.nodes.items (λ n there.
          let node = node_reported n there in (
            map fresh_cap node.0,
            slots_held node.0 n.slots.items node.1 (shape_reported n.number n.owner _ node.2),
            plain_reported n.number _ node.2,
          ));
      pages = all_from (λ (p : PageEntry). IsDescribedPage p (frame_at (plain_frames w.objects) p.number)) d.pages.items (λ p there.
          let page = page_reported p there in
          (page.0, words_held page.0 p.words.items page.1 (shape_reported p.number p.owner _ page.2), plain_reported p.number _ page.2));
      others = blank_other;
    }

    pub described : Describes g w d
    described = record { geometry = geometry; age = age; numbers = numbers_reported; fields = fields_reported; frames = frames_reported }

    pub brief : IsBrief d
    brief = record {
      banks = banks.rising;
      processes = processes.rising;
      nodes = nodes.rising;
      pages = pages.rising;
      registers = all_from (λ (p : ProcessEntry). AreBriefSlots p.registers.items) _
          (λ p there. let annex = (process_reported p there).1 in slots_brief _ _ annex.1);
      slots = all_from (λ (n : NodeEntry). AreBriefSlots n.slots.items) _ (λ n there. let node = node_reported n there in
          slots_brief _ _ node.1);
      words = all_from (λ (p : PageEntry). AreBriefWords p.words.items) _ (λ p there. let page = page_reported p there in
          (page.1.rising, page.1.some));
    }
