-- Reading a list of values, item by item.
use Rattle.description.proofs.Names.{nat_tests, ℕ, zero, suc, List, [], length, get_or, take, refl, sym, ap, arith, take_more, same_Some, Data, Items, no_items}
use Rattle.description.proofs.Names.{item, array, as_array, view, items_view, Value, AreItems, IsList}
use Rattle.std.proofs.Common.{◌≡◌, ◌+◌, ◌<◌, ◌∷◌, ◌++◌, ◌∙◌}

abbrev pub item_count : Items → ℕ
item_count no_items = 0
item_count (item d ds) = suc (item_count ds)

count_viewed : (vs : List Value) → item_count (items_view vs) ≡ length vs
count_viewed [] = refl
count_viewed (v ∷ vs) = ap suc (count_viewed vs)

pub same_items : (ds es : Items) → array ds ≡ array es → ds ≡ es
same_items ds es same = same_Some ds es (ap as_array same)

-- if a list was read, it has as many items as values
pub items_length : (d : Data) (vs : List Value) (ds : Items) → d ≡ array (items_view vs) → d ≡ array ds → length vs ≡ item_count ds
items_length d vs ds is at = sym (count_viewed vs) ∙ ap item_count (same_items (items_view vs) ds (sym is ∙ at))

pub last_read : {A : Type 0} (P : Data → A → Type 0) (vs : List Value) (xs : List A) (v : Value) (x : A) → AreItems P (items_view vs) xs →
    P (view v) x → AreItems P (items_view (vs ++ v ∷ [])) (xs ++ x ∷ [])
last_read P [] [] v x are is = (is, tt)
last_read P (w ∷ ws) (y ∷ ys) v x are is = (are.0, last_read P ws ys v x are.1 is)
last_read P vs xs v x are is = absurd are

-- reading the first i values and then the next reads the first i + 1
pub one_more : {A : Type 0} (P : Data → A → Type 0) (vs : List Value) (i : ℕ) (xs : List A) (v : Value) (x : A) → i < length vs →
    get_or vs i v ≡ v → AreItems P (items_view (take i vs)) xs → P (view v) x → AreItems P (items_view (take (i + 1) vs)) (xs ++ x ∷ [])
one_more P vs i xs v x within at are is = rw (take_more vs i v within, at) (last_read P (take i vs) xs v x are is)

pub element : {A : Type 0} (P : Data → A → Type 0) (vs : List Value) (i : ℕ) (xs : List A) (v : Value) → i < length vs →
    AreItems P (items_view vs) xs → (x : A) × P (view (get_or vs i v)) x
element P (w ∷ ws) zero (x ∷ xs) v within are = (x, are.0)
element P (w ∷ ws) (suc i) (x ∷ xs) v within are = element P ws i xs v (omega arith) are.1
element P vs i xs v within are = absurd (grind (arith, nat_tests))

pub items_read : {A : Type 0} (P : Data → A → Type 0) (d : Data) (vs : List Value) (xs : List A) → d ≡ array (items_view vs) →
    IsList P d xs → AreItems P (items_view vs) xs
items_read P d vs xs is list = rw (← same_items (items_view vs) list.0 (sym is ∙ list.1)) at list.2

pub count_read : {A : Type 0} (P : Data → A → Type 0) (vs : List Value) (xs : List A) → AreItems P (items_view vs) xs →
    length xs ≡ length vs
count_read P [] [] are = refl
count_read P (v ∷ vs) (x ∷ xs) are = ap suc (count_read P vs xs are.1)
count_read P vs xs are = absurd are

-- if a list was read, each of its values was
pub each_read : {A : Type 0} (P : Data → A → Type 0) (d : Data) (vs : List Value) (i : ℕ) (xs : List A) (v : Value) →
    d ≡ array (items_view vs) → i < length vs → get_or vs i v ≡ v → IsList P d xs → (x : A) × P (view v) x
each_read P d vs i xs v is within at list =
    let found = element P vs i xs v within (items_read P d vs xs is list) in
    (found.0, rw at at found.1)
