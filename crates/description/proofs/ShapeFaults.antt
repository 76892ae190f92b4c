-- If a table has a flaw, it is no description.
use Rattle.description.proofs.Names.{ℕ, zero, suc, List, [], map, Some, slice_get, subst, false≢true, IsTrue, none-some, same_Some, Data, Items, item, no_items}
use Rattle.description.proofs.Names.{Members, array, table, AreItems, HasList, IsList, IsTable, IsBank, IsDescription, IsNode, IsPage, IsProcess, IsRange}
use Rattle.description.proofs.Names.{IsSlot, IsWord, has_only, Description, whole_ranges, Key, TableName, Flaw, ShapePlace, Unknown, Misfit, Item, Banks}
use Rattle.description.proofs.Names.{NodeList, NodeSlots, PageList, PageWords, Processes, ProcessRegisters, Ranges, key_name, keys_of, FitsAt, IsItem}
use Rattle.description.proofs.Names.{IsFormless, is_list, FitAll, HasFirstItem, IsFirstItem, IsFirstFlaw, IsFirstInside, BreaksAt, BreaksShape, refl}
use Rattle.std.proofs.Common.{◌≡◌, ◌∷◌}
use Rattle.description.specs.declared.place.TableName.TheVariants as name
use Rattle.description.proofs.Elements.{same_items}
use Rattle.description.proofs.FirstFlaws.{not_known}
use Rattle.description.proofs.Keyed.{with_default}
use Rattle.description.proofs.Parts.{in_table}

fit_at : (ms : Members) (keys : List Key) (n : ℕ) (key : Key) → slice_get keys n ≡ Some key → FitAll ms keys → FitsAt key ms
fit_at ms [] n key at all = absurd (none-some key at)
fit_at ms (k ∷ ks) zero key at all = subst (λ (j : Key). FitsAt j ms) (same_Some k key at) all.0
fit_at ms (k ∷ ks) (suc n) key at all = fit_at ms ks n key at all.1

item_refuted : {A : Type 0} (P : Data → A → Type 0) (Good So : Data → Type 0) → ((d : Data) (x : A) → P d x → So d → ⊥) →
    (i : ℕ) (ds : Items) (xs : List A) → IsFirstItem Good So i ds → AreItems P ds xs → ⊥
item_refuted P Good So against i no_items xs first are = first
item_refuted P Good So against i (item d ds) [] first are = are
item_refuted P Good So against zero (item d ds) (x ∷ xs) first are = against d x are.0 first
item_refuted P Good So against (suc i) (item d ds) (x ∷ xs) first are = item_refuted P Good So against i ds xs first.1 are.1

list_refuted : {A : Type 0} (P : Data → A → Type 0) (key : Key) (So : Data → Type 0) (i : ℕ) (ms : Members) →
    ((d : Data) (x : A) → P d x → So d → ⊥) → HasFirstItem key So i ms → HasList P (key_name key) ms → ⊥
list_refuted P key So i ms against first has =
    let list : IsList P (array first.0) has.0 = rw first.1 at has.1 in
    item_refuted P (IsItem key) So against i first.0 has.0 first.2 (rw (← same_items first.0 list.0 list.1) at list.2)

-- if an item isn't valid for its key, the list at that key can't be read
item_of : (key : Key) (So : Data → Type 0) (i : ℕ) (ms : Members) → ((d : Data) → IsItem key d → So d → ⊥) → IsTrue (is_list key) →
    HasFirstItem key So i ms → FitsAt key ms → ⊥
item_of Ranges So i ms against list first fits = list_refuted IsRange Ranges So i ms (λ d x is. against d (x, is)) first fits
item_of Banks So i ms against list first fits = list_refuted (IsTable IsBank) Banks So i ms (λ d x is. against d (x, is)) first fits
item_of Processes So i ms against list first fits = list_refuted (IsTable IsProcess) Processes So i ms (λ d x is. against d (x, is)) first
    fits
item_of NodeList So i ms against list first fits = list_refuted (IsTable IsNode) NodeList So i ms (λ d x is. against d (x, is)) first fits
item_of PageList So i ms against list first fits = list_refuted (IsTable IsPage) PageList So i ms (λ d x is. against d (x, is)) first fits
item_of ProcessRegisters So i ms against list first fits = list_refuted IsSlot ProcessRegisters So i ms (λ d x is. against d (x, is)) first
    fits
item_of NodeSlots So i ms against list first fits = list_refuted IsSlot NodeSlots So i ms (λ d x is. against d (x, is)) first fits
item_of PageWords So i ms against list first fits = list_refuted IsWord PageWords So i ms (λ d x is. against d (x, is)) first fits
item_of key So i ms against list first fits = absurd (false≢true list)

formless_refuted : (key : Key) (d : Data) → IsItem key d → IsFormless key d → ⊥
formless_refuted Banks d it none = none it.1.0 it.1.1
formless_refuted Processes d it none = none it.1.0 it.1.1
formless_refuted NodeList d it none = none it.1.0 it.1.1
formless_refuted PageList d it none = none it.1.0 it.1.1
formless_refuted key d it none = none it

-- if a table has only its keys, and all their values fit, it has no flaw
flaw_refuted : (keys : List Key) (ms : Members) (flaw : Flaw) → IsFirstFlaw keys ms flaw → IsTrue (has_only (map key_name keys) ms) →
    FitAll ms keys → ⊥
flaw_refuted keys ms (Unknown key) is known all = not_known (map key_name keys) ms key.now is known
flaw_refuted keys ms (Misfit key) is known all = is.1 (fit_at ms keys is.0.1 key is.0.2 all)
flaw_refuted keys ms (Item key i) is known all =
    item_of key (IsFormless key) i ms (formless_refuted key) is.1 is.2 (fit_at ms keys is.0.1 key is.0.2 all)

inside_refuted : (key : Key) (i : ℕ) (keys : List Key) (ms : Members) (flaw : Flaw) → IsTrue (is_list key) →
    ((d : Data) (t : Members) → IsItem key d → d ≡ table t → IsFirstFlaw keys t flaw → ⊥) → IsFirstInside key i keys ms flaw →
    FitAll ms (keys_of name.Whole) → ⊥
inside_refuted key i keys ms flaw list against is all = item_of key (λ d. (t : Members) × (d ≡ table t) × IsFirstFlaw keys t flaw) i ms
    (λ d it so. against d so.0 it so.1 so.2) list is.1 (fit_at ms (keys_of name.Whole) is.0.1 key is.0.2 all)

description_fits : (ms : Members) (d : Description) → IsDescription ms d → FitAll ms (keys_of name.Whole)
description_fits ms d is =
    let ranges : FitsAt Ranges ms = with_default (IsList IsRange) _ (whole_ranges d.geometry) [] d.ranges.items is.ranges in (
      (_, is.geometry.nodes),
      (
        (_, is.geometry.pages),
        (
          (_, is.geometry.log),
          (
            (_, is.layout),
            (
              (_, is.age),
              (
                ranges,
                (
                  (_, is.banks),
                  (
                    (_, is.processes),
                    ((_, is.nodes), ((_, is.pages), tt)),
                  ),
                ),
              ),
            ),
          ),
        ),
      ),
    )

pub shape_refuted : (ms : Members) (place : ShapePlace) → BreaksShape ms place → (d : Description) → IsDescription ms d → ⊥
shape_refuted ms place broken d is = go place.table place.flaw broken
  where
    fits : FitAll ms (keys_of name.Whole)
    fits = description_fits ms d is

    go : (which : TableName) (flaw : Flaw) → BreaksAt ms which flaw → ⊥
    go name.Whole flaw first = flaw_refuted (keys_of name.Whole) ms flaw first is.known fits
    go (name.Bank i) flaw first = inside_refuted Banks i (keys_of (name.Bank i)) ms flaw refl (λ e t it same inner.
        let has = in_table IsBank e t it.0 same it.1 in
        flaw_refuted (keys_of (name.Bank i)) t flaw inner has.known ((_, has.number), ((_, has.owner), ((_, has.limit), tt)))) first fits
    go (name.Process i) flaw first = inside_refuted Processes i (keys_of (name.Process i)) ms flaw refl (λ e t it same inner.
        let has = in_table IsProcess e t it.0 same it.1 in
        flaw_refuted (keys_of (name.Process i)) t flaw inner has.known (
          (_, has.root),
          (
            (_, has.annex),
            (
              (_, has.owner),
              (
                (_, has.state),
                (
                  (_, has.key),
                  ((_, has.words), ((_, has.space), ((_, has.registers), tt))),
                ),
              ),
            ),
          ),
        )) first fits
    go (name.Node i) flaw first = inside_refuted NodeList i (keys_of (name.Node i)) ms flaw refl (λ e t it same inner.
        let has = in_table IsNode e t it.0 same it.1 in
        flaw_refuted (keys_of (name.Node i)) t flaw inner has.known ((_, has.number), ((_, has.owner), ((_, has.slots), tt)))) first fits
    go (name.Page i) flaw first = inside_refuted PageList i (keys_of (name.Page i)) ms flaw refl (λ e t it same inner.
        let has = in_table IsPage e t it.0 same it.1 in
        flaw_refuted (keys_of (name.Page i)) t flaw inner has.known ((_, has.number), ((_, has.owner), ((_, has.words), tt)))) first fits
