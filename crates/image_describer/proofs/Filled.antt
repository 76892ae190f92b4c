-- What TOML's reader makes of a description's lines.
use Rattle.image_describer.proofs.Names.{nat_tests, arith, ℕ, Bool, true, false, List, [], Option, Some, None, option_and_then, IfSome, MatchOption, append-nil}
use Rattle.image_describer.proofs.Names.{append_assoc, refl, sym, ap, subst, inr, IsTrue, none-some, same_Some, Key, Data, array, table, Items, no_items, item}
use Rattle.image_describer.proofs.Names.{push_item, Members, no_members, member, get_member, Nodes, no_nodes, value, open_array, close, insert, Edit, Document}
use Rattle.image_describer.proofs.Names.{Expression, array_table, along_dots, along_header, at_key, put, are_tables, elements, is_section, section, sections}
use Rattle.image_describer.proofs.Names.{Exists, fill, fill_elements, fill_pairs, fill_sections, roots, run-append, run_elements, along_found, get_node-insert}
use Rattle.image_describer.proofs.Names.{replace-insert, run, AreItems, IsList, IsTable}
use Rattle.std.proofs.Common.{◌≡◌, ◌&&◌, ◌∷◌, ◌++◌, ◌∙◌}
use Rattle.image_describer.proofs.Chains.{Chain, Pair, are_apart, is_apart}
use Rattle.image_describer.proofs.Puts.{Puts, falsely, left, no_node, puts_inserted, puts_none, right}

-- a table with the values that are there, in this order
abbrev pub member_or : List ℕ → Option Data → Members → Members
member_or k None ms = ms
member_or k (Some d) ms = member k d ms

abbrev pub keyed : List Pair → Members
keyed [] = no_members
keyed (p ∷ ps) = member_or p.0 p.1 (keyed ps)

-- no value among these pairs needs a header of its own in TOML
abbrev pub ArePairs : List Pair → Type 0
ArePairs [] = Unit {0}
ArePairs (p ∷ ps) = IfSome p.1 (λ d. is_section d ≡ false) × ArePairs ps

-- the table has none of these keys
abbrev pub AreNew : List Pair → Members → Type 0
AreNew [] ms = Unit {0}
AreNew (p ∷ ps) ms = (get_member p.0 ms ≡ None) × AreNew ps ms

pub all_new : (ps : List Pair) → AreNew ps no_members
all_new [] = tt
all_new (p ∷ ps) = (refl, all_new ps)

-- putting a value at one key leaves the other keys new
new_kept : (ps : List Pair) (k : List ℕ) (o : Option Data) (old new : Members) → Puts k o old new → IsTrue (is_apart k ps) → AreNew ps old →
    AreNew ps new
new_kept [] k o old new puts apart fresh = tt
new_kept (p ∷ ps) k o old new puts apart fresh = grind (arith, nat_tests, new_kept ps k o old new puts, right, falsely, left)

put_new : (k : List ℕ) (d : Data) (ns : Nodes) → get_member k (close ns) ≡ None → put ([], k) d ns ≡ Some (insert k (value d) ns)
unfolding along_dots at_key
put_new k d ns none = rw (no_node k ns none)

filled_at : (k : List ℕ) (o : Option Data) (ps : List Pair) (ns : Nodes) → IfSome o (λ d. is_section d ≡ false) →
    get_member k (close ns) ≡ None → ((mid : Nodes) → Puts k o (close ns) (close mid) →
    (new : Nodes) × (fill_pairs (keyed ps) mid ≡ Some new) × Chain ps (close mid) (close new))
    → (new : Nodes) × (fill_pairs (member_or k o (keyed ps)) ns ≡ Some new) × Chain ((k, o) ∷ ps) (close ns) (close new)
filled_at k None ps ns pair none rest = let (new, made, chain) = rest ns (puts_none k (close ns)) in
    (new, made, (close ns, puts_none k (close ns), chain))
filled_at k (Some d) ps ns pair none rest =
    let mid = insert k (value d) ns in
    let puts = puts_inserted k (value d) ns in
    let (new, made, chain) = rest mid puts in
    (new, rw (pair, put_new k d ns none) made, (close mid, puts, chain))

-- the reader puts the values of a table one after the other
pub filled : (ps : List Pair) (ns : Nodes) → ArePairs ps → IsTrue (are_apart ps) → AreNew ps (close ns) →
    (new : Nodes) × (fill_pairs (keyed ps) ns ≡ Some new) × Chain ps (close ns) (close new)
filled [] ns pairs apart fresh = (ns, refl, refl)
filled (p ∷ ps) ns pairs apart fresh = grind (arith, nat_tests, filled ps, filled_at, right, new_kept, left)

-- if a value needs no header, the reader's pass over the headers ignores it
not_under : (k : List ℕ) (o : Option Data) (ms : Members) (n : Nodes) → IfSome o (λ d. is_section d ≡ false) → fill_sections ms n ≡ Some n →
    fill_sections (member_or k o ms) n ≡ Some n
not_under k None ms n pair none = none
not_under k (Some d) ms n pair none = rw pair none

none_under : (ps : List Pair) (n : Nodes) → ArePairs ps → fill_sections (keyed ps) n ≡ Some n
none_under [] n pairs = refl
none_under (p ∷ ps) n pairs = not_under p.0 p.1 (keyed ps) n pairs.0 (none_under ps n pairs.1)

the_false : (b : Bool) → (true && b) ≡ false → b ≡ false
the_false false is = refl
the_false true is = absurd cc

no_section : (key : Key) (d : Data) → is_section d ≡ false → section key d ≡ []
no_section key d is = grind (arith, nat_tests, the_false)

no_section_at : (path : List (List ℕ)) (k : List ℕ) (o : Option Data) (ms : Members) → IfSome o (λ d. is_section d ≡ false) →
    sections path ms ≡ [] → sections path (member_or k o ms) ≡ []
no_section_at path k None ms pair none = none
no_section_at path k (Some d) ms pair none = rw (no_section (path, k) d pair, none)

pub no_sections : (path : List (List ℕ)) (ps : List Pair) → ArePairs ps → sections path (keyed ps) ≡ []
no_sections path [] pairs = refl
no_sections path (p ∷ ps) pairs = no_section_at path p.0 p.1 (keyed ps) pairs.0 (no_sections path ps pairs.1)

-- a list of tables, made from items
abbrev pub tables : {A : Type 0} → (A → List Pair) → List A → Items
tables f [] = no_items
tables f (x ∷ xs) = item (table (keyed (f x))) (tables f xs)

pub all_tables : {A : Type 0} (f : A → List Pair) (xs : List A) → are_tables (tables f xs) ≡ true
all_tables f [] = refl
all_tables f (x ∷ xs) = all_tables f xs

pushed : {A : Type 0} (P : Data → A → Type 0) (ds : Items) (d : Data) (ys : List A) (y : A) → AreItems P ds ys → P d y →
    AreItems P (push_item ds d) (ys ++ y ∷ [])
pushed P no_items d [] y are is = (is, tt)
pushed P (item e ds) d (z ∷ zs) y are is = (are.0, pushed P ds d zs y are.1 is)
pushed P ds d ys y are is = absurd are

-- the first table of a list is opened below its header, and so is each next one
first_table : (k : List ℕ) (root : Nodes) → get_member k (close root) ≡ None →
    at_key k array_table root ≡ Some (insert k (open_array no_items no_nodes) root)
unfolding at_key
first_table k root none = rw (no_node k root none)

next_table : (k : List ℕ) (done : Items) (last root : Nodes) → at_key k array_table (insert k (open_array done last) root) ≡ Some
    (insert k (open_array (push_item done (table (close last))) no_nodes) root)
unfolding at_key
next_table k done last root = rw (get_node-insert k _ root, replace-insert k _ _ root)

-- values after a header go into the last table of its list
into_last : (k : List ℕ) (done : Items) (root : Nodes) (body : Edit) (n : Nodes) → body no_nodes ≡ Some n
    → along_header (k ∷ []) body (insert k (open_array done no_nodes) root) ≡ Some (insert k (open_array done n) root)
unfolding along_header
into_last k done root body n made = along_found k [] body _ _ (get_node-insert k _ root) ∙ rw (made, replace-insert k _ _ root)

module _ {A : Type 0} (f : A → List Pair) (P : Members → A → Type 0) where
  -- the pairs of an entry are read back as this entry
  pub record IsRead (x : A) : Type 0 where
    pub pairs : ArePairs (f x)
    pub apart : IsTrue (are_apart (f x))
    pub reads : (ms : Members) → Chain (f x) no_members ms → P ms x

  abbrev pub AreRead : List A → Type 0
  AreRead [] = Unit {0}
  AreRead (x ∷ xs) = IsRead x × AreRead xs

  one_read : (x : A) → IsRead x → (n : Nodes) × (fill (keyed (f x)) no_nodes ≡ Some n) × P (close n) x
  one_read x is =
      let (n, made, chain) = filled (f x) no_nodes is.pairs is.apart (all_new (f x)) in
      (n, rw made (none_under (f x) n is.pairs), is.reads (close n) chain)

  more_read : (xs : List A) (k : List ℕ) (done : Items) (last root : Nodes) (ys : List A) → AreRead xs →
      AreItems (IsTable P) (push_item done (table (close last))) ys
      → (all : Items) × (end : Nodes) × (fill_elements k (tables f xs) (insert k (open_array done last) root)
      ≡ Some (insert k (open_array all end) root))
      × AreItems (IsTable P) (push_item all (table (close end))) (ys ++ xs)
  more_read [] k done last root ys are items =
      (done, last, refl, subst (AreItems (IsTable P) (push_item done (table (close last)))) (sym (append-nil ys)) items)
  more_read (x ∷ xs) k done last root ys are items =
      let next = push_item done (table (close last)) in
      let (n, made, is) = one_read x are.0 in
      let pushed_one = pushed (IsTable P) next _ ys x items (close n, refl, is) in
      let (all, end, made_all, all_items) = more_read xs k next n root _ are.1 pushed_one in (
        all,
        end,
        rw (next_table k done last root, into_last k next root _ n made) made_all,
        subst (AreItems (IsTable P) (push_item all (table (close end)))) (append_assoc ys _ xs) all_items,
      )

  -- if a list of tables isn't empty, the reader puts it at its key
  pub list_read : (xs : List A) (k : List ℕ) (root : Nodes) → AreRead xs → get_member k (close root) ≡ None
      → (new : Nodes) × (fill_elements k (tables f xs) root ≡ Some new) × (o : Option Data) × Puts k o (close root) (close new)
      × MatchOption o (xs ≡ [])
      (λ d. IsList (IsTable P) d xs)
  list_read [] k root are none = (root, refl, None, puts_none k (close root), refl)
  list_read (x ∷ xs) k root are none =
      let (n, made, is) = one_read x are.0 in
      let (all, end, made_all, items) = more_read xs k no_items n root (x ∷ []) are.1 ((close n, refl, is), tt) in (
        insert k (open_array all end) root,
        rw (first_table k root none, into_last k no_items root (fill (keyed (f x))) n made) made_all,
        Some (array (push_item all (table (close end)))),
        puts_inserted k (open_array all end) root,
        (push_item all (table (close end)), refl, items),
      )

-- if the reader's result has these nodes, the reader ended in some state with them
from_roots : (o : Option Document) (n : Nodes) → roots o ≡ Some n → (s : List (List ℕ)) × (o ≡ Some (n, s))
from_roots None n is = absurd (none-some n is)
from_roots (Some doc) n is = (doc.1, ap (λ (m : Nodes). let x : Option Document = Some (m, doc.1) in x) (same_Some doc.0 n is))

pub run_list : (root : Nodes) (s : List (List ℕ)) (k : List ℕ) (ds : Items) (es : List Expression) (n : Nodes) → are_tables ds ≡ true →
    fill_elements k ds root ≡ Some n
    → (t : List (List ℕ)) × (run (root, s) (elements ([], k) ds ++ es) ≡ run (n, t) es)
unfolding along_header
run_list root s k ds es n all made =
    let there : Exists [] root = refl in
    let (t, is) = from_roots (run (root, s) (elements ([], k) ds)) n (run_elements ds [] k root s all (inr there) ∙ made) in
    (t, run-append (root, s) (elements ([], k) ds) es ∙ ap (λ (o : Option Document). option_and_then (λ d. run d es) o) is)
