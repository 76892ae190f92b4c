-- The lines of a description are what TOML writes for its values.
use Rattle.image_describer.proofs.Names.{nat_tests, ℕ, suc, pos, Bool, true, false, List, [], codes, decimal, Option, Some, None, IfSome, append-nil}
use Rattle.image_describer.proofs.Names.{append_assoc, refl, sym, ap, arith, flat_map, join_by, dotted_text, key_text, string_text, Data, string, integer}
use Rattle.image_describer.proofs.Names.{array, Items, no_items, item, Members, depth, has_valid_dates, items_depth, items_have_valid_dates, Expression}
use Rattle.image_describer.proofs.Names.{IsItemsText, IsLinesText, IsValueText, are_tables, breaks_lines, elements, is_section, pairs, AllPrinted, Field}
use Rattle.image_describer.proofs.Names.{begin_line, field_line, field_lines, list_text, pair_text, quoted}
use Rattle.std.proofs.Common.{◌≡◌, ◌<◌, ◌≤◌, ◌^◌, ◌&&◌, ◌∷◌, ◌++◌, ◌∙◌}
use Rattle.image_describer.proofs.Chains.{Pair}
use Rattle.image_describer.proofs.Filled.{ArePairs, keyed, member_or, no_sections, tables}

-- ---- values

-- the text is that of this value; the value has at most `levels` levels, no dates, and needs no header
pub record Spells (levels : ℕ) (text : List ℕ) (d : Data) : Type 0 where
  pub text_is : IsValueText false d text
  pub deep : depth d ≤ levels
  pub valid : has_valid_dates d ≡ true
  pub pair : is_section d ≡ false

pub spells_number : (n : ℕ) → n < 2 ^ 63 → Spells 0 (decimal n) (integer (pos n))
spells_number n small = record { text_is = (refl, grind (arith, small)); deep = omega arith; valid = refl; pair = refl }

pub spells_text : (text : List ℕ) → string_text text ≡ quoted text → Spells 0 (quoted text) (string text)
spells_text text is = record { text_is = sym is; deep = omega arith; valid = refl; pair = refl }

-- if the first item of a list isn't a table, the list isn't one of tables
no_tables : (d : Data) (ds : Items) → is_section d ≡ false → are_tables (item d ds) ≡ false
no_tables d ds pair = grind (arith, nat_tests)

both_true : (a b : Bool) → a ≡ true → b ≡ true → (a && b) ≡ true
both_true a b one other = rw (one, other)

one_line : (ds : Items) → breaks_lines false ds ≡ false
one_line no_items = refl
one_line (item d no_items) = refl
one_line (item d (item e ds)) = refl

-- a list of values, made from items
abbrev pub items : {A : Type 0} → (A → Data) → List A → Items
items g [] = no_items
items g (x ∷ xs) = item (g x) (items g xs)

module _ {A : Type 0} (f : A → List ℕ) (g : A → Data) (levels : ℕ) where
  abbrev pub AllSpell : List A → Type 0
  AllSpell [] = Unit {0}
  AllSpell (x ∷ xs) = Spells levels (f x) (g x) × AllSpell xs

  further : (xs : List A) → AllSpell xs → IsItemsText false false false (items g xs) (flat_map (λ y. codes ", " ++ f y) xs ++ codes "]")
  further [] spell = refl
  further (x ∷ xs) spell = grind (arith, nat_tests, further xs spell.1, append_assoc)

  all_items : (xs : List A) → AllSpell xs → IsItemsText false false true (items g xs) (join_by f (codes ", ") xs ++ codes "]")
  all_items xs spell = grind (arith, nat_tests, append_assoc, further)

  items_deep : (xs : List A) → AllSpell xs → items_depth (items g xs) ≤ levels
  items_deep [] spell = omega arith
  items_deep (x ∷ xs) spell = let rest = items_deep xs spell.1 in omega (arith, spell.0.deep, rest)

  items_valid : (xs : List A) → AllSpell xs → items_have_valid_dates (items g xs) ≡ true
  items_valid [] spell = refl
  items_valid (x ∷ xs) spell = both_true (has_valid_dates (g x)) (items_have_valid_dates (items g xs)) spell.0.valid
      (items_valid xs spell.1)

  items_pair : (xs : List A) → AllSpell xs → is_section (array (items g xs)) ≡ false
  items_pair [] spell = refl
  items_pair (x ∷ xs) spell = no_tables (g x) (items g xs) spell.0.pair

  pub spells_list : (xs : List A) → AllSpell xs → Spells (suc levels) (list_text f xs) (array (items g xs))
  spells_list xs spell = grind (arith, nat_tests, one_line, all_items, items_deep, items_valid, items_pair)

pub spells_pair : (s t : List ℕ) (a b : Data) → Spells 0 s a → Spells 0 t b → Spells 1 (pair_text s t) (array (item a (item b no_items)))
spells_pair s t a b one other = grind (arith, nat_tests, append_assoc, both_true, no_tables)

-- ---- keys

abbrev pub SpellsOption : Option (List ℕ) → Option Data → Type 0
SpellsOption None None = Unit {0}
SpellsOption (Some text) (Some d) = Spells 2 text d
SpellsOption _ _ = ⊥

-- if m is at most n, a text of a value with at most m levels is also one with at most n
pub deeper : (m n : ℕ) (text : List ℕ) (d : Data) → m ≤ n → Spells m text d → Spells n text d
deeper m n text d few spells = record {
  text_is = spells.text_is;
  deep = omega (arith, few, spells.deep);
  valid = spells.valid;
  pair = spells.pair;
}

-- these fields are keys without quotes, with the texts of these values
abbrev pub SpellFields : List Field → List Pair → Type 0
SpellFields [] [] = Unit {0}
SpellFields [] (p ∷ ps) = ⊥
SpellFields (f ∷ fs) [] = ⊥
SpellFields (f ∷ fs) (p ∷ ps) = (f.0 ≡ p.0) × (key_text p.0 ≡ p.0) × SpellsOption f.1 p.1 × SpellFields fs ps

pair_option : (o : Option (List ℕ)) (d : Option Data) → SpellsOption o d → IfSome d (λ e. is_section e ≡ false)
pair_option None None spells = tt
pair_option (Some text) (Some d) spells = spells.pair
pair_option o d spells = absurd spells

pub are_pairs : (fs : List Field) (ps : List Pair) → SpellFields fs ps → ArePairs ps
are_pairs [] [] spell = tt
are_pairs (f ∷ fs) (p ∷ ps) spell = (pair_option f.1 p.1 spell.2, are_pairs fs ps spell.3)
are_pairs fs ps spell = absurd spell

line_of_field : (started : Bool) (k l : List ℕ) (o : Option (List ℕ)) (d : Option Data) (ms : Members) (text : List ℕ) → k ≡ l →
    key_text l ≡ l → SpellsOption o d
    → ((begun : Bool) → IsLinesText false begun (pairs ms) text) → IsLinesText false started (pairs (member_or l d ms))
    (field_line (k, o) ++ text)
line_of_field started k l o d ms text same bare spells rest = grind (arith, nat_tests, append_assoc)

pub lines_of_fields : (fs : List Field) (ps : List Pair) (started : Bool) → SpellFields fs ps →
    IsLinesText false started (pairs (keyed ps)) (field_lines fs)
lines_of_fields [] [] started spell = refl
lines_of_fields [] (p ∷ ps) started spell = absurd spell
lines_of_fields (f ∷ fs) [] started spell = absurd spell
lines_of_fields (f ∷ fs) (p ∷ ps) started spell = grind (arith, nat_tests, lines_of_fields fs ps, line_of_field)

printed_field : (l : List ℕ) (o : Option (List ℕ)) (d : Option Data) (ms : Members) → SpellsOption o d → AllPrinted (pairs ms) →
    AllPrinted (pairs (member_or l d ms))
printed_field l None None ms spells rest = rest
printed_field l (Some value) (Some d) ms spells rest = rw spells.pair ((refl, omega (arith, spells.deep), spells.valid), rest)
printed_field l o d ms spells rest = absurd spells

pub printed_fields : (fs : List Field) (ps : List Pair) → SpellFields fs ps → AllPrinted (pairs (keyed ps))
printed_fields [] [] spell = tt
printed_fields (f ∷ fs) (p ∷ ps) spell = printed_field p.0 f.1 p.1 (keyed ps) spell.2 (printed_fields fs ps spell.3)
printed_fields fs ps spell = absurd spell

-- ---- lists of lines

pub append_lines : (started : Bool) (es fs : List Expression) (t u : List ℕ) → (es ≡ [] → started ≡ true) → IsLinesText false started es t →
    IsLinesText false true fs u
    → IsLinesText false started (es ++ fs) (t ++ u)
append_lines started [] fs t u starts one other = grind (arith, nat_tests)
append_lines started (e ∷ es) fs t u starts one other =
    let (this, rest, is, line, more) = one in (
      this,
      rest ++ u,
      ap (λ (text : List ℕ). text ++ u) is ∙ append_assoc this rest u,
      line,
      append_lines true es fs rest u (λ none. refl) more other,
    )

pub append_printed : (es fs : List Expression) → AllPrinted es → AllPrinted fs → AllPrinted (es ++ fs)
append_printed [] fs one other = other
append_printed (e ∷ es) fs one other = (one.0, append_printed es fs one.1 other)

-- ---- tables

module _ {A : Type 0} (f : A → List Pair) (g : A → List Field) (t : A → List ℕ) (name : List ℕ) (bare : key_text name ≡ name)
    (is : (x : A) → t x ≡ begin_line name ++ field_lines (g x)) where
  abbrev pub AllFields : List A → Type 0
  AllFields [] = Unit {0}
  AllFields (x ∷ xs) = SpellFields (g x) (f x) × AllFields xs

  header_is : begin_line name ≡ codes "\n[[" ++ (dotted_text ([], name) ++ codes "]]\n")
  header_is = ap (λ (key : List ℕ). codes "\n[[" ++ key ++ codes "]]\n") (sym bare)

  pub lines_of_tables : (xs : List A) → AllFields xs → IsLinesText false true (elements ([], name) (tables f xs)) (flat_map t xs)
  lines_of_tables [] spell = refl
  lines_of_tables (x ∷ xs) spell = rw (no_sections (name ∷ []) (f x) (are_pairs (g x) (f x) spell.0), append-nil (pairs (keyed (f x)))) (
    begin_line name,
    field_lines (g x) ++ flat_map t xs,
    ap (λ (text : List ℕ). text ++ flat_map t xs) (is x) ∙ append_assoc (begin_line name) (field_lines (g x)) (flat_map t xs),
    header_is,
    append_lines true (pairs (keyed (f x))) (elements ([], name) (tables f xs)) (field_lines (g x)) (flat_map t xs) (λ none. refl)
        (lines_of_fields (g x) (f x) true spell.0) (lines_of_tables xs spell.1),
  )

  pub printed_tables : (xs : List A) → AllFields xs → AllPrinted (elements ([], name) (tables f xs))
  printed_tables [] spell = tt
  printed_tables (x ∷ xs) spell = grind (
    arith,
    nat_tests,
    printed_tables xs spell.1,
    no_sections,
    are_pairs,
    append-nil,
    append_printed,
    printed_fields,
  )
