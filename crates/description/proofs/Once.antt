-- Each value encodes at most one thing, so each table encodes at most one description.
use Rattle.description.proofs.Names.{nat_tests, inl, inr, ℕ, pos, Option, Some, None, List, [], codes, refl, sym, ap, subst, arith, bytes_eq, same_Some}
use Rattle.description.proofs.Names.{capability_text, state_text, Capability, Number, Void, Geometry, State, Available, Running, Waiting, Data, integer, string}
use Rattle.description.proofs.Names.{array, Items, no_items, item, Members, get_member, text_once, Each, IsSame, IsSameNode, IsSamePage, IsSameProcess}
use Rattle.description.proofs.Names.{NumberIsSpelledOnce, AreFour, AreItems, At, AtOr, IsBank, IsCapability, IsDescription, IsList, IsNode, IsNumber, IsPage}
use Rattle.description.proofs.Names.{IsPair, IsProcess, IsRange, IsSlot, IsState, IsTable, IsWideNumber, IsWord, whole_ranges, Description}
use Rattle.description.specs.Reading.{IsGeometry}
use Rattle.std.proofs.Common.{◌≡◌, if◌then◌else◌, ◌∷◌, ◌∙◌}

-- ---- values

same_string : (s t : List ℕ) → string s ≡ string t → s ≡ t
same_string s t e = cc

same_array : (ds es : Items) → array ds ≡ array es → ds ≡ es
same_array ds es e = cc

same_first : (a b : Data) (ds es : Items) → item a ds ≡ item b es → a ≡ b
same_first a b ds es e = cc

same_rest : (a b : Data) (ds es : Items) → item a ds ≡ item b es → ds ≡ es
same_rest a b ds es e = cc

-- if a value encodes two things, these are related by R
abbrev Once : {A B : Type 0} → (B → A → Type 0) → (A → A → Type 0) → Type 0
Once {A = A} {B = B} P R = (d : B) (x y : A) → P d x → P d y → R x y

pub capability_once : Once IsCapability ◌≡◌
capability_once d a b one other = search (arith, text_once, same_string)

same_number : (m n : ℕ) → (let x : Option Capability = Some (Number m) in x) ≡ Some (Number n) → m ≡ n
same_number m n e = cc

integer_or_text : (n : ℕ) (text : List ℕ) → integer (pos n) ≡ string text → ⊥
integer_or_text n text e = cc

number_once : Once IsNumber ◌≡◌
number_once d m n one other = search (arith, sym one.1 ∙ other.1)

wide_once : Once IsWideNumber ◌≡◌
unfolding IsWideNumber
wide_once d m n (inl one) (inl other) = number_once d m n one other
wide_once d m n (inl one) (inr other) = absurd (integer_or_text m (capability_text (Number n)) (sym one.1 ∙ other.1.2))
wide_once d m n (inr one) (inl other) = absurd (integer_or_text n (capability_text (Number m)) (sym other.1 ∙ one.1.2))
wide_once d m n (inr one) (inr other) = same_number m n (capability_once d (Some (Number m)) (Some (Number n)) one.1 other.1)

-- no number has two forms
pub number_spelled_once : NumberIsSpelledOnce
unfolding IsWideNumber
number_spelled_once = grind (arith, nat_tests)

abbrev state_found : List ℕ → Option State
state_found text =
    if bytes_eq text (codes "available") then Some Available else if bytes_eq text (codes "running") then Some Running else if bytes_eq text
    (codes "waiting")
    then Some Waiting else None

state_again : (s : State) → state_found (state_text s) ≡ Some s
state_again s = search arith

state_once : Once IsState ◌≡◌
state_once = grind (arith, nat_tests, same_string, same_Some, state_again)

module _ {A B : Type 0} (P : Data → A → Type 0) (Q : Data → B → Type 0) (first : Once P ◌≡◌) (second : Once Q ◌≡◌) where
  pair_once : (d : Data) (x u : A) (y v : B) → IsPair P Q d x y → IsPair P Q d u v → (x ≡ u) × (y ≡ v)
  pair_once d x u y v one other = grind (arith, nat_tests, same_array, same_rest, same_first)

slot_once : Once IsSlot ◌≡◌
slot_once d e f one other = search (arith, pair_once, number_once, capability_once)

word_once : Once IsWord ◌≡◌
word_once d e f one other = search (arith, pair_once, number_once, wide_once)

-- ---- lists

each_same : {A : Type 0} (xs ys : List A) → Each ◌≡◌ xs ys → xs ≡ ys
each_same [] [] each = refl
each_same (x ∷ xs) (y ∷ ys) each = ap (λ z. z ∷ xs) each.0 ∙ ap (λ zs. y ∷ zs) (each_same xs ys each.1)
each_same xs ys each = absurd each

module _ {A : Type 0} (P : Data → A → Type 0) (R : A → A → Type 0) (once : Once P R) where
  items_once : (ds : Items) (xs ys : List A) → AreItems P ds xs → AreItems P ds ys → Each R xs ys
  items_once no_items [] [] one other = tt
  items_once (item d ds) (x ∷ xs) (y ∷ ys) one other = (once d x y one.0 other.0, items_once ds xs ys one.1 other.1)
  items_once ds xs ys one other = absurd (grind (arith, nat_tests))

  list_once : Once (IsList P) (Each R)
  list_once d xs ys one other = items_once _ xs ys (subst (λ (ds : Items). AreItems P ds xs) (same_array one.0 _ (sym one.1 ∙ other.1))
      one.2) other.2

list_same : {A : Type 0} (P : Data → A → Type 0) → Once P ◌≡◌ → Once (IsList P) ◌≡◌
list_same P once d xs ys one other = each_same xs ys (list_once P ◌≡◌ once d xs ys one other)

four_once : Once AreFour ◌≡◌
four_once d xs ys one other = list_same IsWideNumber wide_once d xs ys one.1 other.1

table_once : {A : Type 0} (P : Members → A → Type 0) (R : A → A → Type 0) → Once P R → Once (IsTable P) R
table_once P R once d x y one other = once other.0 x y (subst (λ (ms : Members). P ms x) (cc) one.2) other.2

-- ---- keys

module _ {A : Type 0} (P : Data → A → Type 0) (R : A → A → Type 0) (once : Once P R) (ms : Members) where
  at_once : (key : List ℕ) (x y : A) → At key P ms x → At key P ms y → R x y
  at_once key x y one other = search (arith, get_member key ms)

  module _ (default : A) (both : R default default) where
    or_once : (key : List ℕ) (x y : A) → AtOr default key P ms x → AtOr default key P ms y → R x y
    or_once key x y one other = search (arith, get_member key ms)

number_at : (ms : Members) (key : List ℕ) (m n : ℕ) → At key IsNumber ms m → At key IsNumber ms n → m ≡ n
number_at ms = at_once IsNumber ◌≡◌ number_once ms

list_at : {A : Type 0} (P : Data → A → Type 0) → Once P ◌≡◌ → (ms : Members) (key : List ℕ) (xs ys : List A) →
    AtOr [] key (IsList P) ms xs → AtOr [] key (IsList P) ms ys → xs ≡ ys
list_at P once ms = or_once (IsList P) ◌≡◌ (list_same P once) ms [] refl

tables_at : {A : Type 0} (P : Members → A → Type 0) (R : A → A → Type 0) → Once P R → (ms : Members) (key : List ℕ) (xs ys : List A) →
    AtOr [] key (IsList (IsTable P)) ms xs → AtOr [] key (IsList (IsTable P)) ms ys → Each R xs ys
tables_at P R once ms = or_once (IsList (IsTable P)) (Each R) (list_once (IsTable P) R (table_once P R once)) ms [] tt

-- ---- entries

bank_once : Once IsBank ◌≡◌
bank_once = grind (arith, nat_tests, number_at, at_once, wide_once)

process_once : Once IsProcess IsSameProcess
process_once ms p q one other = record {
  root = number_at ms (codes "root") p.root q.root one.root other.root;
  annex = number_at ms (codes "annex") p.annex q.annex one.annex other.annex;
  owner = number_at ms (codes "owner") p.owner q.owner one.owner other.owner;
  state = at_once IsState ◌≡◌ state_once ms (codes "state") p.state q.state one.state other.state;
  key = or_once IsNumber ◌≡◌ number_once ms 0 refl (codes "key") p.key q.key one.key other.key;
  words = or_once AreFour ◌≡◌ four_once ms (0 ∷ 0 ∷ 0 ∷ 0 ∷ []) refl (codes "words") p.words q.words one.words other.words;
  space = or_once IsCapability ◌≡◌ capability_once ms (Some Void) refl (codes "space") p.space q.space one.space other.space;
  registers = list_at IsSlot slot_once ms (codes "registers") p.registers.items q.registers.items one.registers other.registers;
}

node_once : Once IsNode IsSameNode
node_once ms m n one other = record {
  number = number_at ms (codes "number") m.number n.number one.number other.number;
  owner = number_at ms (codes "owner") m.owner n.owner one.owner other.owner;
  slots = list_at IsSlot slot_once ms (codes "slots") m.slots.items n.slots.items one.slots other.slots;
}

page_once : Once IsPage IsSamePage
page_once ms p q one other = record {
  number = number_at ms (codes "number") p.number q.number one.number other.number;
  owner = number_at ms (codes "owner") p.owner q.owner one.owner other.owner;
  words = list_at IsWord word_once ms (codes "words") p.words.items q.words.items one.words other.words;
}

geometry_once : Once IsGeometry ◌≡◌
geometry_once = grind (arith, nat_tests, number_at)

pub description_once : (ms : Members) (d e : Description) → IsDescription ms d → IsDescription ms e → IsSame d e
description_once ms d e one other =
    let same = geometry_once ms d.geometry e.geometry one.geometry other.geometry in
    record {
      geometry = same;
      layout = or_once IsNumber ◌≡◌ number_once ms 1 refl (codes "layout") d.layout e.layout one.layout other.layout;
      age = or_once IsNumber ◌≡◌ number_once ms 0 refl (codes "age") d.age e.age one.age other.age;
      ranges = or_once (IsList IsRange) ◌≡◌ (list_same IsRange (search (arith, pair_once, number_once))) ms (whole_ranges e.geometry) refl
          (codes "ranges")
          d.ranges.items e.ranges.items (subst (λ (g : Geometry). AtOr (whole_ranges g) (codes "ranges") (IsList IsRange) ms d.ranges.items)
          same one.ranges)
          other.ranges;
      banks = or_once (IsList (IsTable IsBank)) ◌≡◌ (list_same (IsTable IsBank) (table_once IsBank ◌≡◌ bank_once)) ms [] refl (codes "bank")
          d.banks.items
          e.banks.items one.banks other.banks;
      processes = tables_at IsProcess IsSameProcess process_once ms (codes "process") d.processes.items e.processes.items one.processes
          other.processes;
      nodes = tables_at IsNode IsSameNode node_once ms (codes "node") d.nodes.items e.nodes.items one.nodes other.nodes;
      pages = tables_at IsPage IsSamePage page_once ms (codes "page") d.pages.items e.pages.items one.pages other.pages;
    }
