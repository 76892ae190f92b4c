-- The lines of objects, and those of a whole description, are read back as what they were written for.
use Rattle.image_describer.proofs.Names.{nat_tests, ℕ, nat_lt, true, List, [], codes, length, slice_index_or, Option, None, Some, IsSomeAnd, MatchOption, refl}
use Rattle.image_describer.proofs.Names.{sym, subst, arith, IsTrue, list_all, is_bare, key_text, Data, Members, get_member, no_members, BankEntry, Description}
use Rattle.image_describer.proofs.Names.{NodeEntry, PageEntry, ProcessEntry, AreFour, IsBank, IsCapability, IsDescription, IsList, IsNode, IsNumber, IsPage}
use Rattle.image_describer.proofs.Names.{IsProcess, IsRange, IsSlot, IsState, IsTable, IsWord, whole_ranges, AreSlots, IsProcessEntry, CanBeSpelled, SpellsBank}
use Rattle.image_describer.proofs.Names.{SpellsNode, SpellsPage, SpellsProcess, bank_fields, image_fields, node_fields, page_fields, process_fields}
use Rattle.std.proofs.Common.{◌≡◌, ◌<◌, ◌==◌, ◌&&◌, ◌∷◌, ◌++◌}
use Rattle.image_describer.proofs.Chains.{Chain, Pair, are_apart, chain_at, chain_only}
use Rattle.image_describer.proofs.Filled.{IsRead}
use Rattle.image_describer.proofs.Lines.{SpellFields, are_pairs, deeper, spells_number}
use Rattle.image_describer.proofs.Written.{data_unless, list_data, number_data, ranges_data, says_four, says_number_unless, says_ranges, says_slots, says_space}
use Rattle.image_describer.proofs.Written.{says_state, says_wide, says_words, slot_data, space_data, spells_four, spells_number_unless, spells_ranges}
use Rattle.image_describer.proofs.Written.{spells_slots, spells_space, spells_state, spells_wide, spells_words, state_data, wide_data, word_data, words_data}

-- if the value of x was put at a key, the table has x there
said_at : {A : Type 0} (P : Data → A → Type 0) (o : Option Data) (d : Data) (x : A) → o ≡ Some d → P d x → IsSomeAnd o (λ e. P e x)
said_at P o d x is says = subst (λ (r : Option Data). IsSomeAnd r (λ e. P e x)) (sym is) says

said_or : {A : Type 0} (default : A) (P : Data → A → Type 0) (o r : Option Data) (x : A) → o ≡ r →
    MatchOption r (x ≡ default) (λ e. P e x) → MatchOption o (x ≡ default) (λ e. P e x)
said_or default P o r x is says = subst (λ (r : Option Data). MatchOption r (x ≡ default) (λ e. P e x)) (sym is) says

-- a key of letters needs no quotes
pub bare : (key : List ℕ) → (nat_lt 0 (length key) && list_all is_bare key) ≡ true → key_text key ≡ key
unfolding key_text
bare key letters = rw letters

-- the parameters: pairs with different keys that were put into an empty table
module _ (ps : List Pair) (ms : Members) (chain : Chain ps no_members ms) (apart : IsTrue (are_apart ps)) where
  value_at : (i : ℕ) → i < length ps → get_member (slice_index_or ps i (codes "", None)).0 ms ≡ (slice_index_or ps i (codes "", None)).1
  value_at i inside = chain_at ps i (codes "", None) no_members ms chain apart inside refl

-- the keys of a bank, with their values
abbrev pub bank_pairs : BankEntry → List Pair
bank_pairs b =
    (codes "number", Some (number_data b.number)) ∷ (codes "owner", Some (number_data b.owner)) ∷ (codes "limit", Some (wide_data b.limit))
    ∷ []

module _ (b : BankEntry) (may : SpellsBank b) where
  pub bank_spelled : SpellFields (bank_fields b) (bank_pairs b)
  bank_spelled = grind (arith, nat_tests, bare, deeper, spells_number, spells_wide)

  pub bank_read : IsRead bank_pairs IsBank b
  bank_read = grind (arith, nat_tests, are_pairs, bank_spelled, value_at, chain_only, no_members, said_at, says_wide)

-- the keys of a process, with their values
abbrev pub process_pairs : ProcessEntry → List Pair
process_pairs p =
    (codes "root", Some (number_data p.root)) ∷ (codes "annex", Some (number_data p.annex)) ∷ (codes "owner", Some (number_data p.owner)) ∷
    (codes "state", Some (state_data p.state)) ∷ (codes "key", data_unless (p.key == 0) (number_data p.key)) ∷
    (codes "words", words_data p.words) ∷
    (codes "space", space_data p.space) ∷ (codes "registers", list_data slot_data p.registers.items) ∷ []

module _ (p : ProcessEntry) (entry : IsProcessEntry p) (may : SpellsProcess p) where
  pub process_spelled : SpellFields (process_fields p) (process_pairs p)
  process_spelled = grind (
    arith,
    nat_tests,
    bare,
    deeper,
    spells_number,
    spells_state,
    spells_number_unless,
    spells_four,
    spells_space,
    spells_slots,
  )

  pub process_read : IsRead process_pairs IsProcess p
  process_read = record {
    pairs = are_pairs (process_fields p) (process_pairs p) process_spelled;
    apart = refl;
    reads = λ ms chain. record {
      known = chain_only (process_pairs p)
          (codes "root" ∷ codes "annex" ∷ codes "owner" ∷ codes "state" ∷ codes "key" ∷ codes "words" ∷ codes "space" ∷ codes "registers" ∷
          []) no_members
          ms chain refl refl;
      root = said_at IsNumber _ _ p.root (value_at (process_pairs p) ms chain refl 0 (omega arith)) (may.numbers.0, refl);
      annex = said_at IsNumber _ _ p.annex (value_at (process_pairs p) ms chain refl 1 (omega arith)) (may.numbers.1, refl);
      owner = said_at IsNumber _ _ p.owner (value_at (process_pairs p) ms chain refl 2 (omega arith)) (may.numbers.2, refl);
      state = said_at IsState _ _ p.state (value_at (process_pairs p) ms chain refl 3 (omega arith)) (says_state p.state entry.state);
      key = said_or 0 IsNumber _ _ p.key (value_at (process_pairs p) ms chain refl 4 (omega arith))
          (says_number_unless 0 p.key may.numbers.3);
      words = said_or _ AreFour _ _ p.words (value_at (process_pairs p) ms chain refl 5 (omega arith))
          (says_four p.words may.words.0 may.words.1);
      space = said_or _ IsCapability _ _ p.space (value_at (process_pairs p) ms chain refl 6 (omega arith))
          (says_space p.space entry.space may.space);
      registers = said_or [] (IsList IsSlot) _ _ p.registers.items (value_at (process_pairs p) ms chain refl 7 (omega arith))
          (says_slots p.registers.items entry.registers.held may.registers);
    };
  }

-- the keys of a node, with their values
abbrev pub node_pairs : NodeEntry → List Pair
node_pairs n =
    (codes "number", Some (number_data n.number)) ∷ (codes "owner", Some (number_data n.owner)) ∷
    (codes "slots", list_data slot_data n.slots.items) ∷ []

module _ (n : NodeEntry) (entry : AreSlots 0 n.slots.items) (may : SpellsNode n) where
  pub node_spelled : SpellFields (node_fields n) (node_pairs n)
  node_spelled = grind (arith, nat_tests, bare, deeper, spells_number, spells_slots)

  pub node_read : IsRead node_pairs IsNode n
  node_read = record {
    pairs = are_pairs (node_fields n) (node_pairs n) node_spelled;
    apart = refl;
    reads = λ ms chain. record {
      known = chain_only (node_pairs n) (codes "number" ∷ codes "owner" ∷ codes "slots" ∷ []) no_members ms chain refl refl;
      number = said_at IsNumber _ _ n.number (value_at (node_pairs n) ms chain refl 0 (omega arith)) (may.0, refl);
      owner = said_at IsNumber _ _ n.owner (value_at (node_pairs n) ms chain refl 1 (omega arith)) (may.1, refl);
      slots = said_or [] (IsList IsSlot) _ _ n.slots.items (value_at (node_pairs n) ms chain refl 2 (omega arith))
          (says_slots n.slots.items entry.held may.2);
    };
  }

-- the keys of a page, with their values
abbrev pub page_pairs : PageEntry → List Pair
page_pairs p =
    (codes "number", Some (number_data p.number)) ∷ (codes "owner", Some (number_data p.owner)) ∷
    (codes "words", list_data word_data p.words.items) ∷ []

module _ (p : PageEntry) (may : SpellsPage p) where
  pub page_spelled : SpellFields (page_fields p) (page_pairs p)
  page_spelled = grind (arith, nat_tests, bare, deeper, spells_number, spells_words)

  pub page_read : IsRead page_pairs IsPage p
  page_read = record {
    pairs = are_pairs (page_fields p) (page_pairs p) page_spelled;
    apart = refl;
    reads = λ ms chain. record {
      known = chain_only (page_pairs p) (codes "number" ∷ codes "owner" ∷ codes "words" ∷ []) no_members ms chain refl refl;
      number = said_at IsNumber _ _ p.number (value_at (page_pairs p) ms chain refl 0 (omega arith)) (may.0, refl);
      owner = said_at IsNumber _ _ p.owner (value_at (page_pairs p) ms chain refl 1 (omega arith)) (may.1, refl);
      words = said_or [] (IsList IsWord) _ _ p.words.items (value_at (page_pairs p) ms chain refl 2 (omega arith))
          (says_words p.words.items may.2);
    };
  }

-- the keys of the whole image, with their values
abbrev pub image_pairs : Description → List Pair
image_pairs d =
    (codes "nodes", Some (number_data d.geometry.nodes)) ∷ (codes "pages", Some (number_data d.geometry.pages)) ∷
    (codes "log", Some (number_data d.geometry.log)) ∷ (codes "layout", data_unless (d.layout == 1) (number_data d.layout)) ∷
    (codes "age", data_unless (d.age == 0) (number_data d.age)) ∷ (codes "ranges", ranges_data d.geometry d.ranges.items) ∷ []

module _ (d : Description) (may : CanBeSpelled d) where
  pub image_spelled : SpellFields (image_fields d) (image_pairs d)
  image_spelled = grind (arith, nat_tests, bare, deeper, spells_number, spells_number_unless, spells_ranges)

-- all keys of a description, with these values for the lists of objects
abbrev pub whole_pairs : Description → Option Data → Option Data → Option Data → Option Data → List Pair
whole_pairs d banks processes nodes pages =
    image_pairs d ++ (codes "bank", banks) ∷ (codes "process", processes) ∷ (codes "node", nodes) ∷ (codes "page", pages) ∷ []

module _ (d : Description) (may : CanBeSpelled d) (banks processes nodes pages : Option Data) where
  pub whole_read : (ms : Members) → Chain (whole_pairs d banks processes nodes pages) no_members ms
      → MatchOption banks (d.banks.items ≡ []) (λ e. IsList (IsTable IsBank) e d.banks.items)
      → MatchOption processes (d.processes.items ≡ []) (λ e. IsList (IsTable IsProcess) e d.processes.items)
      → MatchOption nodes (d.nodes.items ≡ []) (λ e. IsList (IsTable IsNode) e d.nodes.items)
      → MatchOption pages (d.pages.items ≡ []) (λ e. IsList (IsTable IsPage) e d.pages.items)
      → IsDescription ms d
  whole_read ms chain says_banks says_processes says_nodes says_pages =
      let at = value_at (whole_pairs d banks processes nodes pages) ms chain refl in
      record {
        known = chain_only (whole_pairs d banks processes nodes pages)
            (codes "nodes" ∷ codes "pages" ∷ codes "log" ∷ codes "layout" ∷ codes "age" ∷ codes "ranges" ∷ codes "bank" ∷ codes "process" ∷
            codes "node" ∷ codes
            "page" ∷ []) no_members ms chain refl refl;
        geometry = record {
          nodes = said_at IsNumber _ _ d.geometry.nodes (at 0 (omega arith)) (may.geometry.0, refl);
          pages = said_at IsNumber _ _ d.geometry.pages (at 1 (omega arith)) (may.geometry.1, refl);
          log = said_at IsNumber _ _ d.geometry.log (at 2 (omega arith)) (may.geometry.2, refl);
        };
        layout = said_or 1 IsNumber _ _ d.layout (at 3 (omega arith)) (says_number_unless 1 d.layout may.layout);
        age = said_or 0 IsNumber _ _ d.age (at 4 (omega arith)) (says_number_unless 0 d.age may.age);
        ranges = said_or (whole_ranges d.geometry) (IsList IsRange) _ _ d.ranges.items (at 5 (omega arith))
            (says_ranges d.geometry d.ranges.items may.ranges);
        banks = said_or [] (IsList (IsTable IsBank)) _ _ d.banks.items (at 6 (omega arith)) says_banks;
        processes = said_or [] (IsList (IsTable IsProcess)) _ _ d.processes.items (at 7 (omega arith)) says_processes;
        nodes = said_or [] (IsList (IsTable IsNode)) _ _ d.nodes.items (at 8 (omega arith)) says_nodes;
        pages = said_or [] (IsList (IsTable IsPage)) _ _ d.pages.items (at 9 (omega arith)) says_pages;
      }
