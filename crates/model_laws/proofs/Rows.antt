-- A worked row is proved by computing it; if it is wrong, the error shows the line.
use Rattle.model_laws.proofs.Names.{ℕ, Bool, true, false, List, [], nat_eq, length, codes, All, bytes_eq, refl, ap₂, arith, digits, list_all, and_parts}
use Rattle.model_laws.proofs.Names.{eqb-true, ltb-true, All-nil, All-cons, All-weaker, AllPass-from_list_all, bytes_eq-Decides, all_slots, zero_words}
use Rattle.model_laws.proofs.Names.{with_content, with_word, with_slot, with_root, with_state, chain, usage, on_bank, has_quota, free_nodes, free_pages}
use Rattle.model_laws.proofs.Names.{with_new, owned_by, inherited, under, rescind, consume, walk, on_page, on_node, on_process, order, deliver, through_gate}
use Rattle.model_laws.proofs.Names.{on_kernel_object, invoke, renewing, untouched, refusal_of, carried_out, f0, i0, Command, Fits, command_words, spelling}
use Rattle.model_laws.proofs.Names.{capability_text, word_lines, capability_lines, object_text, printed, bad_line, line_of, Row, IsRow, answered, row, s0, b0}
use Rattle.std.proofs.Common.{◌≡◌, ◌<◌, ◌^◌, ◌&&◌, ◌∷◌, nat_lt}
use Rattle.model.specs.Machine.{Running as Machine}
use Rattle.model.specs.declared.command.Command.TheVariants as command
use Rattle.model_laws.proofs.Spelling.{split, command_of}
use Prim.Native.String.{String}

-- `unfolding machine` lets `refl` compute what the machine answers
unfoldable pub machine : Unit {0}
unfolding digits all_slots zero_words with_content with_word with_slot with_root with_state chain usage rescind consume walk on_bank
    has_quota free_nodes
    free_pages with_new under owned_by inherited on_page on_node on_process order deliver through_gate on_kernel_object invoke untouched
    renewing refusal_of
    carried_out command_words command_of spelling capability_text word_lines capability_lines object_text printed bad_line f0 i0 s0 b0
machine = tt

-- whether numbers are below a bound, and whether a command has a spelling
abbrev pub below : ℕ → List ℕ → Bool
below n ns = list_all (λ k. nat_lt k n) ns

all_below : (n : ℕ) (ns : List ℕ) → below n ns ≡ true → All (λ k. k < n) ns
all_below n ns e = All-weaker (λ k. nat_lt k n ≡ true) (λ k. k < n) (λ k. ltb-true k n) ns (AllPass-from_list_all (λ k. nat_lt k n) ns e)

abbrev pub fits : Command → Bool
fits (command.Invoke i) =
    (below (2 ^ 64) (i.process ∷ []) && below 32 (i.register ∷ []))
    && ((nat_eq (length i.words) 4 && below (2 ^ 64) i.words) && (nat_eq (length i.sent) 4 && below 32 i.sent))
fits (command.Load p address) = below (2 ^ 64) (p ∷ address ∷ [])
fits (command.Store p address value) = below (2 ^ 64) (p ∷ address ∷ value ∷ [])
fits (command.Show n) = below (2 ^ 64) (n ∷ [])
fits (command.Evict n) = below (2 ^ 64) (n ∷ [])
fits (command.Stabilize n) = below (2 ^ 64) (n ∷ [])
fits (command.Migrate n) = below (2 ^ 64) (n ∷ [])
fits (command.Journal n) = below (2 ^ 64) (n ∷ [])
fits _ = true

one_below : (n k : ℕ) → below n (k ∷ []) ≡ true → k < n
one_below n k e = all_below n (k ∷ []) e 0 k (omega arith)

pub fits_holds : (c : Command) → fits c ≡ true → Fits c
fits_holds (command.Invoke i) e =
    let names = and_parts (below (2 ^ 64) (i.process ∷ [])) (below 32 (i.register ∷ [])) (and_parts _ _ e).0 in
    let lists = and_parts (nat_eq (length i.words) 4 && below (2 ^ 64) i.words) (nat_eq (length i.sent) 4 && below 32 i.sent)
    (and_parts _ _ e).1 in
    let words = and_parts (nat_eq (length i.words) 4) (below (2 ^ 64) i.words) lists.0 in
    let sent = and_parts (nat_eq (length i.sent) 4) (below 32 i.sent) lists.1 in (
      one_below (2 ^ 64) i.process names.0,
      one_below 32 i.register names.1,
      eqb-true (length i.words) 4 words.0,
      all_below (2 ^ 64) i.words words.1,
      eqb-true (length i.sent) 4 sent.0,
      all_below 32 i.sent sent.1,
    )
fits_holds (command.Load p address) e =
    let all = all_below (2 ^ 64) (p ∷ address ∷ []) e in
    (all 0 p (omega arith), all 1 p (omega arith))
fits_holds (command.Store p address value) e =
    let all = all_below (2 ^ 64) (p ∷ address ∷ value ∷ []) e in
    (all 0 p (omega arith), all 1 p (omega arith), all 2 p (omega arith))
fits_holds (command.Show n) e = one_below (2 ^ 64) n e
fits_holds (command.Evict n) e = one_below (2 ^ 64) n e
fits_holds (command.Stabilize n) e = one_below (2 ^ 64) n e
fits_holds (command.Migrate n) e = one_below (2 ^ 64) n e
fits_holds (command.Journal n) e = one_below (2 ^ 64) n e
fits_holds c e = tt

-- the command in the words of a line; whether the line is its spelling, and its answer right
abbrev pub said : String × String → Command
said line = command_of (split (codes line.0))

abbrev pub is_right : Machine → String × String → Bool
is_right s line =
    fits (said line)
    && (bytes_eq (codes line.0) (spelling (said line)) && bytes_eq (line_of (codes line.1)) (printed (answered s (said line)).answer))

-- the lines of a script with wrong answers, which an error message shows
abbrev pub added_unless : Bool → String × String → List (String × String) → List (String × String)
added_unless true line lines = lines
added_unless false line lines = line ∷ lines

abbrev pub wrong : Machine → List (String × String) → List (String × String)
wrong s [] = []
wrong s (line ∷ lines) = added_unless (is_right s line) line (wrong (answered s (said line)).after lines)

none_added : (right : Bool) (line : String × String) (lines : List (String × String)) →
    added_unless right line lines ≡ [] → (right ≡ true) × (lines ≡ [])
none_added true line lines e = (refl, e)
none_added false line lines e = cc

pub row_holds : (s : Machine) (lines : List (String × String)) → wrong s lines ≡ [] → IsRow (row s lines)
row_holds s [] e = ([], All-nil Fits, refl, refl)
row_holds s (line ∷ lines) e =
    let c = said line in
    let written = printed (answered s c).answer in
    let first = none_added (is_right s line) line (wrong (answered s c).after lines) e in
    let fit = and_parts (fits c) (bytes_eq (codes line.0) (spelling c) && bytes_eq (line_of (codes line.1)) written) first.0 in
    let texts = and_parts (bytes_eq (codes line.0) (spelling c)) (bytes_eq (line_of (codes line.1)) written) fit.1 in
    let others = row_holds (answered s c).after lines first.1 in (
      c ∷ others.0,
      All-cons Fits c others.0 (fits_holds c fit.0) others.1,
      ap₂ (λ text rest. text ∷ rest) ((bytes_eq-Decides (codes line.0) (spelling c)).0 texts.0) others.2,
      ap₂ (λ text rest. text ∷ rest) ((bytes_eq-Decides (line_of (codes line.1)) written).0 texts.1) others.3,
    )

-- no line of a row is wrong
abbrev pub IsRight : Row → Type 0
IsRight r = wrong r.begins r.lines ≡ []

pub rows_hold : (rows : List Row) → All IsRight rows → All IsRow rows
rows_hold rows right = All-weaker IsRight IsRow (λ r. row_holds r.begins r.lines) rows right
