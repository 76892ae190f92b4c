-- Which texts have only one line.
use Rattle.description_explainer.proofs.Names.{none-some, same_Some, nat_tests, ℕ, zero, suc, Bool, false, List, [], Option, None, Some, refl, ap}
use Rattle.description_explainer.proofs.Names.{arith, All-cons, All-head, All-tail, IfSome, codes, decimal, list_any, IsOneLine, Description, Key}
use Rattle.description_explainer.proofs.Names.{Flaw, TableName, Part, Unbanked, Held, Limit, Misnumbered, Named, Place, Rule, IsFlawText, IsPlaceText}
use Rattle.description_explainer.proofs.Names.{entry_text, field_text, indexed_entry, item_text, key_name, limit_text, listed_number}
use Rattle.description_explainer.proofs.Names.{misnumbered_text, named_text, node_text, object_text, owner_text, page_text, part_text, process_text, rule_text}
use Rattle.description_explainer.proofs.Names.{slot_entry, table_text, target_text, debug_escape_letter, debug_str, digit_glyph, digits_onto, flat_map}
use Rattle.std.proofs.Common.{◌≡◌, ◌≢◌, ◌∷◌, ◌++◌, ◌∙◌}
use Rattle.std.specs.Prelude.{◌==◌}
unfoldable use Rattle.std.specs.Fmt.{debug_escape, digits}
use Rattle.description.specs.declared.place.Flaw.TheVariants as flaw
use Rattle.description.specs.declared.place.TableName.TheVariants as name
use Rattle.description.specs.declared.flaw.Part.TheVariants as part
use Rattle.recovery.specs.declared.consistency.reason.Unbanked.TheVariants as unbanked
use Rattle.description.specs.declared.flaw.Held.TheVariants as held
use Rattle.description.specs.declared.flaw.Limit.TheVariants as limit
use Rattle.description.specs.declared.flaw.Misnumbered.TheVariants as misnumbered
use Rattle.description.specs.declared.flaw.Named.TheVariants as named
use Rattle.description_explainer.specs.declared.place.Place.TheVariants as place
use Rattle.description_explainer.specs.declared.place.Rule.TheVariants as rule

-- whether a text has a newline
abbrev pub breaks : List ℕ → Bool
breaks text = list_any (λ b. b == 10) text

pub one_line : (text : List ℕ) → breaks text ≡ false → IsOneLine text
one_line [] none = λ k e lt. absurd (omega arith)
one_line (b ∷ bs) none = All-cons (λ c. c ≢ 10) b bs (grind (arith, nat_tests)) (one_line bs (grind (arith, nat_tests)))

pub both : (xs ys : List ℕ) → breaks xs ≡ false → breaks ys ≡ false → breaks (xs ++ ys) ≡ false
both [] ys one other = other
both (x ∷ xs) ys one other = grind (arith, nat_tests, both xs ys)

-- ---- numbers

glyph_line : (d : ℕ) (acc : List ℕ) → breaks acc ≡ false → breaks (digit_glyph false d ∷ acc) ≡ false
glyph_line d acc none = grind (arith, nat_tests)

glyphs_line : (k base n : ℕ) (acc : List ℕ) → breaks acc ≡ false → breaks (digits_onto k base false n acc) ≡ false
glyphs_line zero base n acc none = none
glyphs_line (suc k) base n acc none = grind (arith, nat_tests, glyph_line, glyphs_line k)

digits_line : (base n : ℕ) → breaks (digits base false n) ≡ false
unfolding digits
digits_line base n = glyphs_line 64 base n [] refl

pub decimal_line : (n : ℕ) → breaks (decimal n) ≡ false
decimal_line n = digits_line 10 n

-- ---- texts in quotes

letter_line : (c : ℕ) → breaks (debug_escape_letter c 34 ∷ []) ≡ false
letter_line c = grind (arith, nat_tests)

plain_line : (c : ℕ) → debug_escape_letter c 34 ≡ 0 → breaks (c ∷ []) ≡ false
plain_line c none = grind (arith, nat_tests)

hex_line : (c : ℕ) → breaks (digits 16 false c ++ 125 ∷ []) ≡ false
hex_line c = both (digits 16 false c) (125 ∷ []) (digits_line 16 c) refl

escape_line : (c : ℕ) → breaks (debug_escape 34 c) ≡ false
unfolding debug_escape
escape_line c = grind (arith, nat_tests, letter_line, plain_line, hex_line)

escapes_line : (text : List ℕ) → breaks (flat_map (debug_escape 34) text) ≡ false
escapes_line [] = refl
escapes_line (c ∷ cs) = both (debug_escape 34 c) (flat_map (debug_escape 34) cs) (escape_line c) (escapes_line cs)

-- nothing is known of a quoted text that has a newline, so any other text may replace it
pub quoted_line : (key shown : List ℕ) → (breaks shown ≡ false → ⊥) → IfSome (debug_str key) (λ s. shown ≡ s) → (other : List ℕ) →
    IfSome (debug_str key) (λ s. other ≡ s)
quoted_line key shown broken is other = go (debug_str key) refl is
  where
    str_line : (o : Option (List ℕ)) → debug_str key ≡ o → (s : List ℕ) → o ≡ Some s → breaks s ≡ false
    str_line o same s is = grind (arith, nat_tests, none-some, same_Some, both, escapes_line)

    go : (o : Option (List ℕ)) → debug_str key ≡ o → IfSome o (λ s. shown ≡ s) → IfSome o (λ s. other ≡ s)
    go None same known = tt
    go (Some s) same known = absurd (broken (ap breaks known ∙ str_line (Some s) same s refl))

pub quotes_line : IsOneLine (codes "\"\"")
quotes_line = one_line (codes "\"\"") refl

-- ---- places

item_line : (list : List ℕ) (i : ℕ) (after : List ℕ) → breaks list ≡ false → breaks after ≡ false → breaks (item_text list i after) ≡ false
item_line list i after one other =
    both list (codes "[" ++ (decimal i ++ (codes "]" ++ after))) one (both (codes "[") (decimal i ++ (codes "]" ++ after)) refl
    (both (decimal i) (codes "]" ++ after) (decimal_line i) (both (codes "]") after refl other)))

table_line : (t : TableName) → breaks (table_text t) ≡ false
table_line name.Whole = refl
table_line (name.Bank k) = item_line (codes "bank") k (codes ", ") refl refl
table_line (name.Process k) = item_line (codes "process") k (codes ", ") refl refl
table_line (name.Node k) = item_line (codes "node") k (codes ", ") refl refl
table_line (name.Page k) = item_line (codes "page") k (codes ", ") refl refl

key_line : (k : Key) → breaks (key_name k) ≡ false
key_line k = grind (arith, nat_tests)

pub unbroken : (text : List ℕ) → IsOneLine text → breaks text ≡ false
unbroken [] one = refl
unbroken (b ∷ bs) one = grind (arith, nat_tests, All-head (λ c. c ≢ 10) b bs one, unbroken bs (All-tail (λ c. c ≢ 10) b bs one))

flaw_line : (f : Flaw) (text : List ℕ) → IsFlawText f text → breaks text ≡ false
flaw_line (flaw.Unknown key) text is = rw is.3 (both (codes "key ") is.0 refl (unbroken is.0 is.2))
flaw_line (flaw.Misfit key) text is = rw is (key_line key)
flaw_line (flaw.Item key i) text is = rw is (item_line (key_name key) i [] (key_line key) refl)

limit_line : (l : Limit) → breaks (limit_text l) ≡ false
limit_line limit.Nodes = refl
limit_line limit.Pages = refl
limit_line limit.Log = refl
limit_line limit.Age = refl
limit_line limit.Layout = refl
limit_line limit.RangeCount = refl
limit_line (limit.RangesEnd next) = refl
limit_line (limit.Range i next) = item_line (codes "ranges") i [] refl refl

named_line : (n : Named) → breaks (named_text n) ≡ false
named_line (named.Bank k) = item_line (codes "bank") k (codes ", number") refl refl
named_line (named.Root k) = item_line (codes "process") k (codes ", root") refl refl
named_line (named.Annex k) = item_line (codes "process") k (codes ", annex") refl refl
named_line (named.Node k) = item_line (codes "node") k (codes ", number") refl refl
named_line (named.Page k) = item_line (codes "page") k (codes ", number") refl refl

misnumbered_line : (m : Misnumbered) → breaks (misnumbered_text m) ≡ false
misnumbered_line (misnumbered.OutOfRange who) = named_line who
misnumbered_line (misnumbered.Twice who other) = named_line other

-- a word without a newline and a number have no newline
counted_line : (word : List ℕ) (n : ℕ) → breaks word ≡ false → breaks (word ++ decimal n) ≡ false
counted_line word n one = both word (decimal n) one (decimal_line n)

entry_line : (object list : List ℕ) (i : ℕ) → breaks object ≡ false → breaks list ≡ false → breaks (entry_text object list i) ≡ false
entry_line object list i one other =
    both object (codes ", " ++ item_text list i []) one (both (codes ", ") (item_text list i []) refl (item_line list i [] other refl))

module _ (d : Description) where
  process_line : (k : ℕ) → breaks (process_text d k) ≡ false
  process_line k = counted_line (codes "process ") (listed_number d (named.Root k)) refl

  node_line : (k : ℕ) → breaks (node_text d k) ≡ false
  node_line k = counted_line (codes "node ") (listed_number d (named.Node k)) refl

  page_line : (k : ℕ) → breaks (page_text d k) ≡ false
  page_line k = counted_line (codes "page ") (listed_number d (named.Page k)) refl

  part_line : (n : ℕ) (o : Option ℕ) → breaks (part_text d n o) ≡ false
  part_line n (Some k) = process_line k
  part_line n None = grind (arith, nat_tests, counted_line (codes "node ") n refl, counted_line (codes "page ") n refl)

  object_line : (n : ℕ) → breaks (object_text d n) ≡ false
  object_line n = grind (arith, nat_tests, counted_line (codes "bank ") n refl, part_line n)

  field_line : (p : Part) → breaks (field_text d p) ≡ false
  field_line (part.State k) = both (process_text d k) (codes ", state") (process_line k) refl
  field_line (part.Key k) = both (process_text d k) (codes ", key") (process_line k) refl
  field_line (part.Space k) = both (process_text d k) (codes ", space") (process_line k) refl
  field_line (part.Registers k why) = entry_line (process_text d k) (codes "registers") (slot_entry why) (process_line k) refl
  field_line (part.Slots k why) = entry_line (node_text d k) (codes "slots") (slot_entry why) (node_line k) refl
  field_line (part.Words k why) = entry_line (page_text d k) (codes "words") (indexed_entry why) (page_line k) refl

  target_line : (h : Held) → breaks (target_text d h) ≡ false
  target_line (held.Space k) = both (process_text d k) (codes ", space") (process_line k) refl
  target_line (held.Register k i) = entry_line (process_text d k) (codes "registers") i (process_line k) refl
  target_line (held.Slot k i) = entry_line (node_text d k) (codes "slots") i (node_line k) refl

  owner_line : (u : Unbanked) → breaks (owner_text d u) ≡ false
  owner_line unbanked.Prime = refl
  owner_line (unbanked.Owner n owner) = both (object_text d n) (codes ", owner") (object_line n) refl
  owner_line (unbanked.Chain bank) = both (codes "bank ") (decimal bank ++ codes ", owner") refl
      (both (decimal bank) (codes ", owner") (decimal_line bank) refl)
  owner_line (unbanked.Limit bank used most) = both (codes "bank ") (decimal bank ++ codes ", limit") refl
      (both (decimal bank) (codes ", limit") (decimal_line bank) refl)

  rule_line : (r : Rule) → breaks (rule_text d r) ≡ false
  rule_line (rule.Limit l) = limit_line l
  rule_line (rule.Number n) = misnumbered_line n
  rule_line (rule.Field p) = field_line p
  rule_line (rule.Target h) = target_line h
  rule_line (rule.Owner u) = owner_line u

place_line : (p : Place) (text : List ℕ) → IsPlaceText p text → breaks text ≡ false
place_line (place.Shape s) text is = rw is.2 (both (table_text s.table) is.0 (table_line s.table) (flaw_line s.flaw is.0 is.1))
place_line (place.Rule d r) text is = rw is (rule_line d r)

-- if place and words have no newline, neither has the explanation
pub explanation_line : (p : Place) (at what : List ℕ) (n : ℕ) → IsPlaceText p at → breaks what ≡ false →
    IsOneLine (at ++ (what ++ (codes " (bad description " ++ (decimal n ++ codes ")"))))
explanation_line p at what n is one =
    let number = both (decimal n) (codes ")") (decimal_line n) refl in
    let end = both (codes " (bad description ") (decimal n ++ codes ")") refl number in
    one_line (at ++ (what ++ (codes " (bad description " ++ (decimal n ++ codes ")"))))
    (both at (what ++ (codes " (bad description " ++ (decimal n ++ codes ")"))) (place_line p at is)
    (both what (codes " (bad description " ++ (decimal n ++ codes ")")) one end))
