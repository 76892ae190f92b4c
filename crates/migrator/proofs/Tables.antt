-- Facts about a table of places.
use Rattle.migrator.proofs.Names.{nat_tests, ℕ, zero, suc, Bool, true, false, Option, Some, None, List, [], length, set, take, drop, refl, sym, ap, subst}
use Rattle.migrator.proofs.Names.{arith, length-append, replicate, get_or-map, get_or-set_same, get_or-set_other, get_or_default, take_all, drop_all}
use Rattle.migrator.proofs.Names.{nil_from_length, length-map, map-set, is_marked, IsNextMarked, HasNoneMarked, Geometry, Entry, entry_at, AreRising, IsEntry}
use Rattle.migrator.proofs.Names.{IsDirectory, slot_in, own_slot, same_Some, two_objects, Place, Nowhere, Torn, Whole, place_at, slot_of, is_held, has_slot}
use Rattle.migrator.proofs.Names.{has_frame, tally, taken_count, whole_count, slot_or, slot_for, IsTable, entry_before, entries_from, entries_of, map}
use Rattle.std.proofs.Common.{◌≡◌, ◌+◌, ◌-◌, ◌<◌, ◌≤◌, ◌∷◌, ◌++◌, ◌∙◌}
use Rattle.std.proofs.lemmas.List.{append-nil}
use native.Mathlib.Numerals.{unary_clauses}

-- ---- counts

-- setting one place changes the count by the difference between the new and the old place
pub tally-set : (has : Place → ℕ) (ps : List Place) (n : ℕ) (q : Place) → n < length ps →
    tally has (set ps n q) + has (place_at ps n) ≡ tally has ps + has q
unfolding tally
tally-set has [] n q lt = absurd (omega (arith, lt))
tally-set has (p ∷ ps) zero q lt = omega arith
tally-set has (p ∷ ps) (suc n) q lt = let rest = tally-set has ps n q (omega (arith, lt)) in omega (arith, rest)

-- the count of one place is at most the count of all
tally_at : (has : Place → ℕ) (ps : List Place) (n : ℕ) → n < length ps → has (place_at ps n) ≤ tally has ps
unfolding tally
tally_at has [] n lt = absurd (omega (arith, lt))
tally_at has (p ∷ ps) zero lt = omega arith
tally_at has (p ∷ ps) (suc n) lt = let rest = tally_at has ps n (omega (arith, lt)) in omega (arith, rest)

frame_slot : (p : Place) → has_frame p ≤ has_slot p
frame_slot p = grind (arith, nat_tests)

pub whole_taken : (ps : List Place) → whole_count ps ≤ taken_count ps
unfolding tally
whole_taken [] = omega arith
whole_taken (p ∷ ps) = let rest = whole_taken ps in let here = frame_slot p in omega (arith, rest, here)

whole_of : (p : Place) {s : ℕ} → has_slot p ≤ has_frame p → slot_of p ≡ Some s → p ≡ Whole s
whole_of p {s} le is = grind (arith, nat_tests)

-- if as many slots have valid frames as are taken, each slot that is taken has one
pub all_whole : (ps : List Place) (n : ℕ) {s : ℕ} → taken_count ps ≤ whole_count ps → n < length ps → slot_of (place_at ps n) ≡ Some s →
    place_at ps n ≡ Whole s
unfolding tally
all_whole [] n le lt is = absurd (omega (arith, lt))
all_whole (p ∷ ps) zero {s} le lt is = let rest = whole_taken ps in whole_of p (omega (arith, le, rest)) is
all_whole (p ∷ ps) (suc n) {s} le lt is = let here = frame_slot p in all_whole ps n (omega (arith, le, here)) (omega (arith, lt)) is

pub tally-blank : (has : Place → ℕ) (n : ℕ) → has Nowhere ≡ 0 → tally has (replicate n Nowhere) ≡ 0
unfolding tally
tally-blank has zero none = refl
tally-blank has (suc n) none = let rest = tally-blank has n none in omega (arith, none, rest)

-- ---- tables without a slot

pub blank_at : (n k : ℕ) → place_at (replicate n Nowhere) k ≡ Nowhere
blank_at zero k = refl
blank_at (suc n) zero = refl
blank_at (suc n) (suc k) = blank_at n k

pub blank_table : (n : ℕ) → IsTable (replicate n Nowhere)
blank_table n = grind (arith, nat_tests, blank_at)

-- ---- a place is set

none_has : (p : Place) → slot_of p ≡ None → has_slot p ≡ 0
none_has p is = grind (arith, nat_tests)

pub some_has : (p : Place) {s : ℕ} → slot_of p ≡ Some s → has_slot p ≡ 1
some_has p {s} is = grind (arith, nat_tests)

pub set_here : (ps : List Place) {n : ℕ} {q : Place} → n < length ps → place_at (set ps n q) n ≡ q
set_here ps {n} {q} lt = get_or-set_same ps n q Nowhere lt

-- if an object has slot s, `slot_for` returns s
pub slot_kept : (ps : List Place) (n : ℕ) {s : ℕ} → slot_of (place_at ps n) ≡ Some s → slot_for ps n ≡ s
slot_kept ps n is = ap (λ (o : Option ℕ). slot_or o (taken_count ps)) is

pub set_there : (ps : List Place) {n m : ℕ} (q : Place) → (m ≡ n → ⊥) → place_at (set ps n q) m ≡ place_at ps m
set_there ps {n} {m} q other = get_or-set_other ps n m q Nowhere other

-- if an object keeps its slot, the table stays valid
table_kept : {ps : List Place} {n t : ℕ} (q : Place) → IsTable ps → n < length ps → slot_of (place_at ps n) ≡ Some t → slot_of q ≡ Some t →
    IsTable (set ps n q)
table_kept {ps} {n} {t} q is lt was has = grind (arith, nat_tests, tally-set, some_has, set_here, set_there)

-- if an object without a slot gets the next one, the table stays valid
table_more : {ps : List Place} {n : ℕ} (q : Place) → IsTable ps → n < length ps → slot_of (place_at ps n) ≡ None →
    slot_of q ≡ Some (taken_count ps) → IsTable (set ps n q)
table_more {ps} {n} q is lt was has = grind (arith, nat_tests, tally-set, none_has, some_has, same_Some, set_here, set_there)

set_by : (o : Option ℕ) {ps : List Place} {n : ℕ} (q : Place) → IsTable ps → n < length ps → slot_of (place_at ps n) ≡ o →
    slot_of q ≡ Some (slot_or o (taken_count ps)) → IsTable (set ps n q)
set_by o {ps} {n} q is lt was has = grind (arith, nat_tests, table_more, table_kept)

pub table_set : {ps : List Place} {n : ℕ} (q : Place) → IsTable ps → n < length ps → slot_of q ≡ Some (slot_for ps n) → IsTable (set ps n q)
table_set {ps} {n} q is lt has = set_by (slot_of (place_at ps n)) q is lt refl has

-- ---- entries

entry_length : (n : ℕ) (p : Place) (es : List Entry) → length (entry_before n (slot_of p) es) ≡ has_slot p + length es
entry_length n p es = grind (arith, nat_tests)

length_from : (n : ℕ) (ps : List Place) → length (entries_from n ps) ≡ taken_count ps
unfolding tally
length_from n [] = refl
length_from n (p ∷ ps) = let rest = length_from (n + 1) ps in let here = entry_length n p (entries_from (n + 1) ps) in
    omega (arith, rest, here)

pub length_entries : (ps : List Place) → length (entries_of ps) ≡ taken_count ps
unfolding entries_of
length_entries ps = length_from 0 ps

-- ---- which objects have a slot

-- each mark says whether the object has a slot
mark_is : (ps : List Place) (n : ℕ) → is_marked (map is_held ps) n ≡ is_held (place_at ps n)
mark_is ps n = get_or-map is_held ps n Nowhere

held_has : (p : Place) → is_held p ≡ true → has_slot p ≡ 1
held_has p held = grind (arith, nat_tests)

unheld_slot : (p : Place) → is_held p ≡ false → slot_of p ≡ None
unheld_slot p unheld = grind (arith, nat_tests)

-- the entries from object n on are its own, if it has a slot, and then those from n + 1 on
entries_step : (i n : ℕ) (ps : List Place) → entries_from i (drop n ps) ≡ entry_before i (slot_of (place_at ps n))
    (entries_from (i + 1) (drop (n + 1) ps))
entries_step i zero [] = refl
entries_step i (suc n) [] = simp unary_clauses refl
entries_step i zero (p ∷ ps) = refl
entries_step i (suc n) (p ∷ ps) = simp unary_clauses (simp unary_clauses at (entries_step i n ps))

-- objects without a slot have no entries
entries_unheld : (ps : List Place) (from k : ℕ) → ((m : ℕ) → from ≤ m → m < from + k → is_marked (map is_held ps) m ≡ false) →
    entries_from from (drop from ps) ≡ entries_from (from + k) (drop (from + k) ps)
entries_unheld ps from zero none = simp unary_clauses refl
entries_unheld ps from (suc k) none =
    let rest : List Entry = entries_from (from + 1) (drop (from + 1) ps) in
    let here = unheld_slot (place_at ps from) (sym (mark_is ps from) ∙ none from (omega arith) (omega arith)) in
    let next : from + 1 + k ≡ from + suc k = omega arith in
    entries_step from from ps ∙ ap (λ (o : Option ℕ). entry_before from o rest) here ∙
    entries_unheld ps (from + 1) k (λ m past within. none m (omega arith) (omega arith))
    ∙ ap (λ (n : ℕ). entries_from n (drop n ps)) next

-- the next object with a slot has the next entry
pub next_held : (ps : List Place) {from n s : ℕ} → IsNextMarked (map is_held ps) from n → slot_of (place_at ps n) ≡ Some s →
    entries_from from (drop from ps) ≡ record { object = n; slot = s } ∷ entries_from (n + 1) (drop (n + 1) ps)
next_held ps {from} {n} next has =
    let end : from + (n - from) ≡ n = omega (arith, next.past) in
    entries_unheld ps from (n - from) (λ m past within. next.least m past (omega (arith, end)))
    ∙ ap (λ (m : ℕ). entries_from m (drop m ps)) end ∙ entries_step n n ps ∙ ap
    (λ (o : Option ℕ). entry_before n o (entries_from (n + 1) (drop (n + 1) ps)))
    has

-- if no further object has a slot, there are no further entries
pub none_held : (ps : List Place) {from : ℕ} → HasNoneMarked (map is_held ps) from → entries_from from (drop from ps) ≡ []
none_held ps {from} none =
    entries_unheld ps from (length ps) (λ m past within. none m past) ∙ ap (entries_from (from + length ps))
    (drop_all (from + length ps) ps (omega arith))

-- the entries that are listed, and those that are left (`rest`), are together as many as the taken slots
pub entries_left : (ps : List Place) (xs rest : List Entry) → entries_of ps ≡ xs ++ rest → length xs + length rest ≡ taken_count ps
entries_left ps xs rest are = let all = ap length are in omega (arith, all, length_entries ps, length-append xs rest)

-- once as many entries are listed as slots are taken, all are listed
pub entries_done : (ps : List Place) {xs : List Entry} (rest : List Entry) → entries_of ps ≡ xs ++ rest → length xs ≡ taken_count ps →
    xs ≡ entries_of ps
entries_done ps {xs} rest are done = search (
  arith,
  nil_from_length rest (omega (arith, entries_left ps xs rest are, done)),
  entries_left,
  append-nil,
)

-- ---- all slots are freed

pub none_taken : (ps : List Place) → HasNoneMarked (map is_held ps) 0 → taken_count ps ≡ 0
none_taken ps none = sym (length_from 0 ps) ∙ ap length (none_held ps none)

-- freeing one object's slot lowers the count of taken slots by one
pub one_less : (ps : List Place) {n : ℕ} → IsNextMarked (map is_held ps) 0 n → taken_count (set ps n Nowhere) + 1 ≡ taken_count ps
one_less ps {n} next = grind (arith, nat_tests, length-map, tally-set, held_has, mark_is)

-- if no slot is taken, no object has one
pub all_nowhere : (ps : List Place) → taken_count ps ≡ 0 → ps ≡ replicate (length ps) Nowhere
unfolding tally
all_nowhere [] none = refl
all_nowhere (Nowhere ∷ ps) none = ap (λ (qs : List Place). Nowhere ∷ qs) (all_nowhere ps (omega (arith, none)))
all_nowhere (Torn s ∷ ps) none = absurd (omega (arith, none))
all_nowhere (Whole s ∷ ps) none = absurd (omega (arith, none))

-- ---- the slots in the entries

none_below : (o : Option ℕ) {n m : ℕ} (es : List Entry) → m < n → slot_in es m ≡ None → slot_in (entry_before n o es) m ≡ None
none_below o {n} {m} es lt none = grind (arith, nat_tests)

below : (n : ℕ) {m : ℕ} (ps : List Place) → m < n → slot_in (entries_from n ps) m ≡ None
below n [] lt = refl
below n {m} (p ∷ ps) lt = none_below (slot_of p) (entries_from (n + 1) ps) lt (below (n + 1) ps (omega (arith, lt)))

slot_first : (o : Option ℕ) (n : ℕ) (es : List Entry) → slot_in es n ≡ None → slot_in (entry_before n o es) n ≡ o
slot_first o n es none = grind (arith, nat_tests)

slot_later : (o : Option ℕ) {n m : ℕ} (es : List Entry) → n < m → slot_in (entry_before n o es) m ≡ slot_in es m
slot_later o {n} {m} es lt = grind (arith, nat_tests)

slot_from : (n k : ℕ) (ps : List Place) → slot_in (entries_from n ps) (n + k) ≡ slot_of (place_at ps k)
slot_from n k [] = refl
slot_from n zero (p ∷ ps) = grind (arith, nat_tests, slot_first, below)
slot_from n (suc k) (p ∷ ps) = grind (arith, nat_tests, slot_later, slot_from (n + 1) k ps)

pub slot_entries : (ps : List Place) (n : ℕ) → slot_in (entries_of ps) n ≡ slot_of (place_at ps n)
unfolding entries_of
slot_entries ps n = let same : 0 + n ≡ n = omega arith in ap (slot_in (entries_from 0 ps)) (sym same) ∙ slot_from 0 n ps

-- ---- the entries are a directory

-- the objects of the entries rise from `low` to below `high`
record AreFrom (low high : ℕ) (es : List Entry) : Type 0 where
  pub each : (i : ℕ) → i < length es → (low ≤ (entry_at es i).object) × ((entry_at es i).object < high)
  pub rising : AreRising es

from_by : (o : Option ℕ) {n high : ℕ} {es : List Entry} → n < high → AreFrom (n + 1) high es → AreFrom n high (entry_before n o es)
from_by o {n} {high} {es} lt are = grind (arith, nat_tests)

from_of : (n : ℕ) (ps : List Place) → AreFrom n (n + length ps) (entries_from n ps)
from_of n [] = record { each = λ i lt. absurd (omega (arith, lt)); rising = λ i lt. absurd (omega (arith, lt)) }
from_of n (p ∷ ps) = grind (arith, nat_tests, from_by, from_of (n + 1) ps)

entries_are : (ps : List Place) → AreFrom 0 (0 + length ps) (entries_of ps)
unfolding entries_of
entries_are ps = from_of 0 ps

-- the object of an entry has the slot of that entry
entry_place : (ps : List Place) {i : ℕ} → i < length (entries_of ps) → slot_of (place_at ps (entry_at (entries_of ps) i).object) ≡ Some
    (entry_at (entries_of ps) i).slot
entry_place ps {i} lt = sym (slot_entries ps (entry_at (entries_of ps) i).object) ∙ own_slot (entries_of ps) i (entries_are ps).rising lt

pub entries_directory : {g : Geometry} {ps : List Place} → IsTable ps → length ps ≡ g.nodes + g.pages → taken_count ps ≤ g.log →
    g.nodes + g.pages ≤ 8192 → g.log ≤ 4096 → IsDirectory g (entries_of ps)
entries_directory {g} {ps} is size few small small' =
    let es : List Entry = entries_of ps in
    let are = entries_are ps in
    record {
      each = λ i d lt.
          let one = are.each i lt in
          let slot = is.few (entry_at es i).object (entry_at es i).slot (entry_place ps lt) in
          subst (IsEntry g) (sym (get_or_default es i d (record { object = 0; slot = 0 }) lt))
          (record {
            object = omega (arith, one.1, size);
            slot = omega (arith, slot, few);
            object_fits = omega (arith, one.1, size, small);
            slot_fits = omega (arith, slot, few, small');
          });
      rising = are.rising;
      apart = λ i j lt within same. two_objects es i j are.rising lt within
          (is.apart (entry_at es i).object (entry_at es j).object (entry_at es j).slot
          (entry_place ps (omega (arith, lt, within)) ∙ ap (λ (k : ℕ). Some k) same) (entry_place ps within));
    }

-- ---- the counts in the code

one_slot : (p : Place) → has_slot p ≤ 1
one_slot p = grind (arith, nat_tests)

pub taken_few : (ps : List Place) → taken_count ps ≤ length ps
unfolding tally
taken_few [] = omega arith
taken_few (p ∷ ps) = let rest = taken_few ps in let here = one_slot p in omega (arith, rest, here)

pub count_set : (has : Place → ℕ) {items now : List Place} {n : ℕ} {q old : Place} {count a b : ℕ} → items ≡ now → n < length now →
    old ≡ place_at now n → count ≡ tally has items → a ≡ has q → b ≡ has old → count + a - b ≡ tally has (set items n q)
count_set has {items} {now} {n} {q} {old} {count} {a} {b} same lt is total one other = grind (arith, nat_tests, tally-set)

pub count_at : (has : Place → ℕ) {items now : List Place} {n : ℕ} {old : Place} {count b : ℕ} → items ≡ now → n < length now →
    old ≡ place_at now n → count ≡ tally has items → b ≡ has old → b ≤ count
count_at has {items} {now} {n} {old} {count} {b} same lt is total other = grind (arith, nat_tests, tally_at)

pub table_is : {items now : List Place} {n : ℕ} (q : Place) → items ≡ now → n < length now → slot_of q ≡ Some (slot_for now n) →
    IsTable items → IsTable (set items n q)
table_is {items} {now} {n} q same lt has is = grind (arith, nat_tests, table_set)

slot_held : (p : Place) {s : ℕ} → slot_of p ≡ Some s → is_held p ≡ true
slot_held p {s} has = grind (arith, nat_tests)

pub held_set : (ps : List Place) {held : List Bool} (n : ℕ) {s : ℕ} (q : Place) → held ≡ map is_held ps → slot_of q ≡ Some s →
    set held n true ≡ map is_held (set ps n q)
held_set ps n {s} q are has = ap (λ (bs : List Bool). set bs n true) are ∙ ap (set (map is_held ps) n) (sym (slot_held q has))
    ∙ sym (map-set is_held ps n q)

pub blank_is : {ps : List Place} {held : List Bool} (n : ℕ) → ps ≡ replicate n Nowhere → held ≡ map is_held ps →
    IsTable ps × (held ≡ map is_held ps) × (0 ≡ taken_count ps) × (0 ≡ whole_count ps)
blank_is {ps} {held} n is marks = grind (arith, nat_tests, blank_table, tally-blank)

-- no object has a slot
pub unheld_all : (n : ℕ) → replicate n false ≡ map is_held (replicate n Nowhere)
unheld_all zero = refl
unheld_all (suc n) = ap (λ (bs : List Bool). false ∷ bs) (unheld_all n)

pub rewritten : {X : Type 0} (items : List X) {new : List X} {len : ℕ} → length new ≡ length items → len ≡ length items → take len
    (new ++ drop (length new) items) ≡ new
rewritten {X} items {new} {len} long size = grind (arith, nat_tests, drop_all, append-nil, take_all)
