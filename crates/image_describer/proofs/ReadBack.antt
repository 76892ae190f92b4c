-- If the text of a description is read, the result is that description.
use Rattle.image_describer.proofs.Names.{nat_tests, ℕ, suc, Bool, true, false, List, [], codes, length, Option, Some, refl, sym, ap, append-nil, append_assoc}
use Rattle.image_describer.proofs.Names.{option_map, option_and_then, arith, flat_map, recursion_from_All, first, key_text, Members, no_members, parse_document}
use Rattle.image_describer.proofs.Names.{skip_bom, Document, Expression, Nodes, along_header, close, no_nodes, IsLinesText, elements, pairs, run-append}
use Rattle.image_describer.proofs.Names.{run_pairs, AllPrinted, line_turn, read_lines, run, document_some, BankEntry, Description, NodeEntry, PageEntry}
use Rattle.image_describer.proofs.Names.{ProcessEntry, IsBank, IsDescription, IsNode, IsPage, IsProcess, AreSlots, HasFields, IsProcessEntry, TextIsRead}
use Rattle.image_describer.proofs.Names.{CanBeSpelled, SpellsBank, SpellsNode, SpellsPage, SpellsProcess, bank_fields, bank_text, description_text, field_lines}
use Rattle.image_describer.proofs.Names.{image_fields, node_fields, node_text, page_fields, page_text, process_fields, process_text}
use Rattle.std.proofs.Common.{◌≡◌, ◌==◌, ◌∷◌, ◌++◌, ◌∙◌}
use Rattle.std.specs.List.{AllByRecursion as ByRecursion}
use Rattle.image_describer.proofs.Chains.{Pair, chain_append, chain_other}
use Rattle.image_describer.proofs.Filled.{AreRead, IsRead, all_new, all_tables, filled, keyed, list_read, run_list, tables}
use Rattle.image_describer.proofs.Lines.{AllFields, SpellFields, append_lines, append_printed, are_pairs, lines_of_fields, lines_of_tables, printed_fields}
use Rattle.image_describer.proofs.Lines.{printed_tables}
use Rattle.image_describer.proofs.Said.{bank_pairs, bank_read, bank_spelled, bare, image_pairs, image_spelled, node_pairs, node_read, node_spelled, page_pairs}
use Rattle.image_describer.proofs.Said.{page_read, page_spelled, process_pairs, process_read, process_spelled, whole_read}
use Rattle.image_describer.proofs.Written.{both}

-- ---- the reader of TOML, over any lines

not_bom : (started : Bool) (es : List Expression) (text : List ℕ) → IsLinesText false started es text → AllPrinted es →
    (first text == 239) ≡ false
not_bom started [] text is printed = rw is
not_bom started (e ∷ es) text is printed =
    let (this, rest, whole, line, more) = is in
    let turn = line_turn false started e.0 e.1 this rest line printed.0 in
    rw whole turn.5

no_skip : (text : List ℕ) → (first text == 239) ≡ false → skip_bom text ≡ text
unfolding skip_bom
no_skip text is = rw is

parsed : (es : List Expression) (text : List ℕ) (n : Nodes) (s : List (List ℕ)) → IsLinesText false false es text → AllPrinted es →
    run (no_nodes, []) es ≡ Some (n, s) → parse_document text ≡ Some (close n)
parsed es text n s is printed ran =
    let read = read_lines false false es text text (no_nodes, []) (suc (length text)) is printed refl (omega arith) in
    document_some text (n, s) (rw (no_skip text (not_bom false es text is printed)) (read ∙ ran))

-- five texts joined in two ways are equal
joined : (a b c d e : List ℕ) → a ++ (b ++ (c ++ (d ++ (e ++ [])))) ≡ a ++ b ++ c ++ d ++ e
joined a b c d e = ap (λ (t : List ℕ). a ++ (b ++ (c ++ (d ++ t)))) (append-nil e)
    ∙ sym (append_assoc _ d e ∙ append_assoc _ c _ ∙ append_assoc a b _)

-- ---- a description

module _ {A : Type 0} (f : A → List Pair) (P : Members → A → Type 0) (May : A → Type 0) (one : (x : A) → May x → IsRead f P x) where
  are_read : (xs : List A) → ByRecursion May xs → AreRead f P xs
  are_read [] may = tt
  are_read (x ∷ xs) may = (one x may.0, are_read xs may.1)

module _ {A : Type 0} (f : A → List Pair) (g : A → List (List ℕ × Option (List ℕ))) (t : A → List ℕ) (name : List ℕ)
    (is_bare : key_text name ≡ name)
    (is : (x : A) → t x ≡ codes "\n[[" ++ name ++ codes "]]\n" ++ field_lines (g x))
    (May : A → Type 0) (one : (x : A) → May x → SpellFields (g x) (f x)) where
  all_fields : (xs : List A) → ByRecursion May xs → AllFields f g t name is_bare is xs
  all_fields [] may = tt
  all_fields (x ∷ xs) may = (one x may.0, all_fields xs may.1)

bank_is : (b : BankEntry) → bank_text b ≡ codes "\n[[" ++ codes "bank" ++ codes "]]\n" ++ field_lines (bank_fields b)
bank_is b = refl

process_is : (p : ProcessEntry) → process_text p ≡ codes "\n[[" ++ codes "process" ++ codes "]]\n" ++ field_lines (process_fields p)
process_is p = refl

node_is : (n : NodeEntry) → node_text n ≡ codes "\n[[" ++ codes "node" ++ codes "]]\n" ++ field_lines (node_fields n)
node_is n = refl

page_is : (p : PageEntry) → page_text p ≡ codes "\n[[" ++ codes "page" ++ codes "]]\n" ++ field_lines (page_fields p)
page_is p = refl

module _ (d : Description) (fields : HasFields d) (may : CanBeSpelled d) where
  -- the lines of the whole image's keys
  abbrev top_lines : List Expression
  top_lines = pairs (keyed (image_pairs d))

  abbrev bank_lines : List Expression
  bank_lines = elements ([], codes "bank") (tables bank_pairs d.banks.items)

  abbrev process_lines : List Expression
  process_lines = elements ([], codes "process") (tables process_pairs d.processes.items)

  abbrev node_lines : List Expression
  node_lines = elements ([], codes "node") (tables node_pairs d.nodes.items)

  abbrev page_lines : List Expression
  page_lines = elements ([], codes "page") (tables page_pairs d.pages.items)

  abbrev all_lines : List Expression
  all_lines = top_lines ++ (bank_lines ++ (process_lines ++ (node_lines ++ (page_lines ++ []))))

  abbrev MayProcess : ProcessEntry → Type 0
  MayProcess p = IsProcessEntry p × SpellsProcess p

  abbrev MayNode : NodeEntry → Type 0
  MayNode n = AreSlots 0 n.slots.items × SpellsNode n

  banks_may : ByRecursion SpellsBank d.banks.items
  banks_may = recursion_from_All SpellsBank d.banks.items may.banks

  processes_may : ByRecursion MayProcess d.processes.items
  processes_may = recursion_from_All MayProcess d.processes.items (both IsProcessEntry SpellsProcess d.processes.items fields.processes
      may.processes)

  nodes_may : ByRecursion MayNode d.nodes.items
  nodes_may = recursion_from_All MayNode d.nodes.items (both (λ (n : NodeEntry). AreSlots 0 n.slots.items) SpellsNode d.nodes.items
      fields.nodes may.nodes)

  pages_may : ByRecursion SpellsPage d.pages.items
  pages_may = recursion_from_All SpellsPage d.pages.items may.pages

  -- the key `bank` needs no quotes
  bare_bank : key_text (codes "bank") ≡ codes "bank"
  bare_bank = bare (codes "bank") refl

  bare_process : key_text (codes "process") ≡ codes "process"
  bare_process = bare (codes "process") refl

  bare_node : key_text (codes "node") ≡ codes "node"
  bare_node = bare (codes "node") refl

  bare_page : key_text (codes "page") ≡ codes "page"
  bare_page = bare (codes "page") refl

  bank_fields_all : AllFields bank_pairs bank_fields bank_text (codes "bank") bare_bank bank_is d.banks.items
  bank_fields_all = all_fields bank_pairs bank_fields bank_text (codes "bank") bare_bank bank_is SpellsBank bank_spelled d.banks.items
      banks_may

  process_fields_all : AllFields process_pairs process_fields process_text (codes "process") bare_process process_is d.processes.items
  process_fields_all = all_fields process_pairs process_fields process_text (codes "process") bare_process process_is MayProcess
      (λ p m. process_spelled p m.0 m.1) d.processes.items processes_may

  node_fields_all : AllFields node_pairs node_fields node_text (codes "node") bare_node node_is d.nodes.items
  node_fields_all = all_fields node_pairs node_fields node_text (codes "node") bare_node node_is MayNode (λ n m. node_spelled n m.0 m.1)
      d.nodes.items nodes_may

  page_fields_all : AllFields page_pairs page_fields page_text (codes "page") bare_page page_is d.pages.items
  page_fields_all = all_fields page_pairs page_fields page_text (codes "page") bare_page page_is SpellsPage page_spelled d.pages.items
      pages_may

  abbrev parts : List ℕ
  parts = field_lines (image_fields d) ++
      (flat_map bank_text d.banks.items ++
      (flat_map process_text d.processes.items ++ (flat_map node_text d.nodes.items ++ (flat_map page_text d.pages.items ++ []))))

  lines_are : IsLinesText false false all_lines parts
  lines_are =
      append_lines false top_lines (bank_lines ++ (process_lines ++ (node_lines ++ (page_lines ++ [])))) (field_lines (image_fields d))
      (flat_map bank_text d.banks.items ++
      (flat_map process_text d.processes.items ++ (flat_map node_text d.nodes.items ++ (flat_map page_text d.pages.items ++ []))))
      (λ none. absurd cc) (lines_of_fields (image_fields d) (image_pairs d) false (image_spelled d may))
      (append_lines true bank_lines (process_lines ++ (node_lines ++ (page_lines ++ []))) (flat_map bank_text d.banks.items)
      (flat_map process_text d.processes.items ++ (flat_map node_text d.nodes.items ++ (flat_map page_text d.pages.items ++ [])))
      (λ none. refl) (lines_of_tables bank_pairs bank_fields bank_text (codes "bank") bare_bank bank_is d.banks.items bank_fields_all)
      (append_lines true process_lines (node_lines ++ (page_lines ++ [])) (flat_map process_text d.processes.items)
      (flat_map node_text d.nodes.items ++ (flat_map page_text d.pages.items ++ []))
      (λ none. refl) (lines_of_tables process_pairs process_fields process_text (codes "process") bare_process process_is d.processes.items
      process_fields_all)
      (append_lines true node_lines (page_lines ++ []) (flat_map node_text d.nodes.items) (flat_map page_text d.pages.items ++ [])
      (λ none. refl) (lines_of_tables node_pairs node_fields node_text (codes "node") bare_node node_is d.nodes.items node_fields_all)
      (append_lines true page_lines [] (flat_map page_text d.pages.items) [] (λ none. refl)
      (lines_of_tables page_pairs page_fields page_text (codes "page") bare_page page_is d.pages.items page_fields_all) refl))))

  lines_printed : AllPrinted all_lines
  lines_printed =
      append_printed top_lines (bank_lines ++ (process_lines ++ (node_lines ++ (page_lines ++ []))))
      (printed_fields (image_fields d) (image_pairs d) (image_spelled d may))
      (append_printed bank_lines (process_lines ++ (node_lines ++ (page_lines ++ [])))
      (printed_tables bank_pairs bank_fields bank_text (codes "bank") bare_bank bank_is d.banks.items bank_fields_all)
      (append_printed process_lines (node_lines ++ (page_lines ++ []))
      (printed_tables process_pairs process_fields process_text (codes "process") bare_process process_is d.processes.items
      process_fields_all)
      (append_printed node_lines (page_lines ++ [])
      (printed_tables node_pairs node_fields node_text (codes "node") bare_node node_is d.nodes.items node_fields_all)
      (append_printed page_lines [] (printed_tables page_pairs page_fields page_text (codes "page") bare_page page_is d.pages.items
      page_fields_all) tt))))

  -- the reader's state after all lines
  ran : (n : Nodes) × (s : List (List ℕ)) × (run (no_nodes, []) all_lines ≡ Some (n, s)) × IsDescription (close n) d
  unfolding along_header
  ran =
      let ps = image_pairs d in
      let banks = tables bank_pairs d.banks.items in
      let processes = tables process_pairs d.processes.items in
      let nodes = tables node_pairs d.nodes.items in
      let pages = tables page_pairs d.pages.items in
      let (n0, made0, chain) = filled ps no_nodes (are_pairs (image_fields d) ps (image_spelled d may)) refl (all_new ps) in
      let (n1, made1, o1, puts1, says1) =
      list_read bank_pairs IsBank d.banks.items (codes "bank") n0 (are_read bank_pairs IsBank SpellsBank bank_read d.banks.items banks_may)
      (chain_other ps (codes "bank") no_members (close n0) chain refl) in
      let (n2, made2, o2, puts2, says2) =
      list_read process_pairs IsProcess d.processes.items (codes "process") n1
      (are_read process_pairs IsProcess MayProcess (λ p m. process_read p m.0 m.1) d.processes.items processes_may)
      (puts1.others (codes "process") refl ∙ chain_other ps (codes "process") no_members (close n0) chain refl) in
      let (n3, made3, o3, puts3, says3) =
      list_read node_pairs IsNode d.nodes.items (codes "node") n2 (are_read node_pairs IsNode MayNode (λ n m. node_read n m.0 m.1)
      d.nodes.items nodes_may)
      (puts2.others (codes "node") refl ∙ puts1.others (codes "node") refl ∙ chain_other ps (codes "node") no_members (close n0) chain refl)
      in
      let (n4, made4, o4, puts4, says4) =
      list_read page_pairs IsPage d.pages.items (codes "page") n3 (are_read page_pairs IsPage SpellsPage page_read d.pages.items pages_may)
      (puts3.others (codes "page") refl ∙ puts2.others (codes "page") refl ∙ puts1.others (codes "page") refl
      ∙ chain_other ps (codes "page") no_members (close n0) chain refl) in
      let top : run (no_nodes, []) top_lines ≡ Some (n0, []) =
      run_pairs (keyed ps) [] no_nodes refl ∙ ap (λ (o : Option Nodes). option_map (λ r. (r, [])) o) made0 in
      let (t1, ran1) = run_list n0 [] (codes "bank") banks (process_lines ++ (node_lines ++ (page_lines ++ []))) n1
      (all_tables bank_pairs d.banks.items) made1
      in
      let (t2, ran2) = run_list n1 t1 (codes "process") processes (node_lines ++ (page_lines ++ [])) n2
      (all_tables process_pairs d.processes.items) made2 in
      let (t3, ran3) = run_list n2 t2 (codes "node") nodes (page_lines ++ []) n3 (all_tables node_pairs d.nodes.items) made3 in
      let (t4, ran4) = run_list n3 t3 (codes "page") pages [] n4 (all_tables page_pairs d.pages.items) made4 in (
        n4,
        t4,
        run-append (no_nodes, []) top_lines (bank_lines ++ (process_lines ++ (node_lines ++ (page_lines ++ []))))
            ∙ ap (λ (o : Option Document). option_and_then (λ e. run e (bank_lines ++
            (process_lines ++ (node_lines ++ (page_lines ++ []))))) o) top
            ∙ ran1 ∙ ran2 ∙ ran3 ∙ ran4,
        whole_read d may o1 o2 o3 o4 (close n4)
            (chain_append ps ((codes "bank", o1) ∷ (codes "process", o2) ∷ (codes "node", o3) ∷ (codes "page", o4) ∷ []) no_members
            (close n0) (close n4) chain
            (close n1, puts1, (close n2, puts2, (close n3, puts3, (close n4, puts4, refl))))) says1 says2 says3 says4,
      )

  parts_are : parts ≡ description_text d
  unfolding description_text
  parts_are = grind (arith, nat_tests, joined)

  pub read_again : (text : List ℕ) → text ≡ description_text d → (table : Members) × (parse_document text ≡ Some table)
      × IsDescription table d
  read_again text is =
      let (n, s, runs, said) = ran in
      (close n, ap parse_document (is ∙ sym parts_are) ∙ parsed all_lines parts n s lines_are lines_printed runs, said)

pub text_is_read : TextIsRead
text_is_read d fields may = read_again d fields may (description_text d) refl
