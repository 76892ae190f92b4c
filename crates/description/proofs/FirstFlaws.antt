-- The first flaw of a table is where a reader stopped.
use Rattle.description.proofs.Names.{nat_tests, ℕ, zero, suc, inl, inr, List, [], length, get_or, take, map, None, Some, refl, sym, subst, ap, arith, false}
use Rattle.description.proofs.Names.{true≢false, IsTrue, IsErrAnd, MatchOption, Result, none-some, same_Some, Data, Items, item, no_items, Members, member}
use Rattle.description.proofs.Names.{no_members, array, table, get_member, items_view, view, Value, AreItems, HasList, IsTable, has_only, Ok, Err, Key}
use Rattle.description.proofs.Names.{TableName, Flaw, ShapePlace, Misread, Unknown, Misfit, Item, key_name, keys_of, FitsAt, IsItem, IsFormless, is_list}
use Rattle.description.proofs.Names.{first_unknown, FitsBefore, IsFirstItem, IsFirstFlaw, IsFirstInside, BreaksAt, BreaksShape, At, IsNumber, HasNumberAndOwner}
use Rattle.description.proofs.Names.{HasProcessFields, ProcessFields, ObjectNumber, ObjectOwner, ProcessRegisters, codes, Misses, Reads, IsMisfit, IsIn}
use Rattle.description.proofs.Names.{IsUnknown, IsStranger, IsBadList, AreBadEntries, IsBadTable, AreBadTables, AtKey}
use Rattle.std.proofs.Common.{◌≡◌, ◌<◌, ◌∷◌, ◌∙◌}
use Rattle.description.specs.declared.place.Misread.TheVariants as misread
use Rattle.description.specs.declared.place.TableName.TheVariants as name

pub all_known : (keys : List (List ℕ)) (ms : Members) → first_unknown keys ms ≡ None → IsTrue (has_only keys ms)
all_known keys no_members none = refl
all_known keys (member k d ms) none = grind (arith, nat_tests, none-some, all_known keys ms)

pub not_known : (keys : List (List ℕ)) (ms : Members) (key : List ℕ) → first_unknown keys ms ≡ Some key → IsTrue (has_only keys ms) → ⊥
not_known keys no_members key is known = none-some key is
not_known keys (member k d ms) key is known = grind (arith, nat_tests, not_known keys ms key)

-- ---- items

module _ (Good So : Data → Type 0) where
  pub first_as : (Better Other : Data → Type 0) → ((d : Data) → Good d → Better d) → ((d : Data) → So d → Other d) → (i : ℕ) (ds : Items) →
      IsFirstItem Good So i ds → IsFirstItem Better Other i ds
  first_as Better Other good so i no_items first = absurd first
  first_as Better Other good so zero (item d ds) first = so d first
  first_as Better Other good so (suc i) (item d ds) first = (good d first.0, first_as Better Other good so i ds first.1)

  -- if the items before index i are good and that at i is bad, it is the first bad item
  pub first_item : {A : Type 0} (P : Data → A → Type 0) → ((d : Data) (x : A) → P d x → Good d) →
      (vs : List Value) (i : ℕ) (xs : List A) (v : Value) → i < length vs → get_or vs i v ≡ v → AreItems P (items_view (take i vs)) xs →
      So (view v) → IsFirstItem Good So i (items_view vs)
  first_item P good [] i xs v within at are so = absurd (omega arith)
  first_item P good (w ∷ ws) zero xs v within at are so = subst (λ (u : Value). So (view u)) (sym at) so
  first_item P good (w ∷ ws) (suc i) [] v within at are so = absurd are
  first_item P good (w ∷ ws) (suc i) (x ∷ xs) v within at are so =
      (good (view w) x are.0, first_item P good ws i xs v (omega arith) at are.1 so)

-- ---- errors that are passed on

turned : (At Other : ShapePlace → Type 0) (e : Misread) → ((p : ShapePlace) → At p → Other p) → Misses At e → Misses Other e
turned At Other (misread.Misshapen p) turn misses = turn p misses
turned At Other misread.NoMemory turn misses = tt

pub passed : {B : Type 0} (At Other : ShapePlace → Type 0) (Q : B → Type 0) (r : Result B Misread) (e : Misread) → IsErrAnd r (λ y. y ≡ e) →
    Misses At e → ((p : ShapePlace) → At p → Other p) → Reads Q Other r
passed At Other Q (Ok x) e same misses turn = absurd same
passed At Other Q (Err y) e same misses turn = subst (Misses Other) (sym same) (turned At Other e turn misses)

-- if a table has an unknown key, that is its first flaw
pub stranger_in : (which : TableName) (ms : Members) (place : ShapePlace) → IsStranger which (map key_name (keys_of which)) ms place →
    IsIn which ms place
stranger_in which ms place is = (is.0, unknown (keys_of which) ms place.flaw is.1)
  where
    unknown : (keys : List Key) (ns : Members) (flaw : Flaw) → IsUnknown (map key_name keys) ns flaw → IsFirstFlaw keys ns flaw
    unknown keys ns (Unknown key) is = is
    unknown keys ns (Misfit key) is = absurd is
    unknown keys ns (Item key i) is = absurd is

module _ (which : TableName) (key : Key) (ms : Members) (before : FitsBefore (keys_of which) ms key) where
  -- if the value at a key is of another type, and the keys before it are good, that is the first flaw
  pub value_in : {A : Type 0} (P : A → Type 0) → is_list key ≡ false → (FitsAt key ms → (x : A) × P x) → (place : ShapePlace) →
      IsMisfit which key P place → IsIn which ms place
  value_in P single fits place is =
      rw is.0 (refl, (before, λ fit. let x = fits fit in is.1 x.0 x.1, λ list. absurd (true≢false (sym list ∙ single))))

  -- if the list at a key is bad, and the keys before it are good, that is the first flaw
  list_flaw : {A : Type 0} (P : Data → A → Type 0) (So : Data → Type 0) → IsTrue (is_list key) →
      (FitsAt key ms → HasList P (key_name key) ms) → ((d : Data) → (x : A) × P d x → IsItem key d) →
      ((d : Data) → So d → IsFormless key d) → (d : Data) → get_member (key_name key) ms ≡ Some d → (flaw : Flaw) →
      IsBadList (λ e. (x : A) × P e x) So key d flaw → IsFirstFlaw (keys_of which) ms flaw
  list_flaw P So list fits good so d at (Unknown k) bad = absurd bad
  list_flaw {A = A} P So list fits good so d at (Misfit k) bad = rw bad.0 (
    before,
    λ fit.
        let v = fits fit in
        let there : MatchOption (Some d) (v.0 ≡ []) (λ e. (ds : Items) × (e ≡ array ds) × AreItems P ds v.0) = rw at at v.1 in
        bad.1 there.0 there.1,
    λ is ds stands. bad.1 ds (same_Some d (array ds) (sym at ∙ stands)),
  )
  list_flaw {A = A} P So list fits good so d at (Item k i) bad = rw bad.0
      (before, list, (bad.1, at ∙ ap Some bad.2, first_as (λ e. (x : A) × P e x) So (IsItem key) (IsFormless key) good so i bad.1 bad.3))

  pub entries_in : {A : Type 0} (P : Data → A → Type 0) → IsTrue (is_list key) → (FitsAt key ms → HasList P (key_name key) ms) →
      ((d : Data) → (x : A) × P d x → IsItem key d) → ((d : Data) → ((x : A) × P d x → ⊥) → IsFormless key d) → (place : ShapePlace) →
      AtKey key (AreBadEntries P which key) ms place → IsIn which ms place
  entries_in {A = A} P list fits good formless place is =
      (is.2.0, list_flaw P (λ e. (x : A) × P e x → ⊥) list fits good formless is.0 is.1 place.flaw is.2.1)

pub in_whole : (ms : Members) (place : ShapePlace) → IsIn name.Whole ms place → BreaksShape ms place
in_whole ms place is = subst (λ (t : TableName). BreaksAt ms t place.flaw) (sym is.0) is.1

-- the parameters: a list of tables at a key of the whole description, with all keys before it good
module _ (ms : Members) (key : Key) (before : FitsBefore (keys_of name.Whole) ms key) where
  pub tables_break : {A : Type 0} (P : Members → A → Type 0) (named : ℕ → TableName) → IsTrue (is_list key) →
      (FitsAt key ms → HasList (IsTable P) (key_name key) ms) → ((d : Data) → (x : A) × IsTable P d x → IsItem key d) →
      ((d : Data) → ((t : Members) → d ≡ table t → ⊥) → IsFormless key d) →
      ((i : ℕ) (flaw : Flaw) → IsFirstInside key i (keys_of (named i)) ms flaw → BreaksAt ms (named i) flaw) → (place : ShapePlace) →
      AtKey key (AreBadTables P named key) ms place → BreaksShape ms place
  tables_break {A = A} P named list fits good formless inside place is = elim is.2 [
    | inl none ↦ rw none.0 (list_flaw name.Whole key ms before (IsTable P) (λ e. (t : Members) → e ≡ table t → ⊥) list fits good formless
        is.0 is.1 (Misfit key)
        (refl, none.1))
    | inr one ↦ elim one.3 [
      | inl bare ↦ subst (BreaksShape ms) (sym bare.0) (
        before,
        list,
        (
          one.1,
          is.1 ∙ ap Some one.2,
          first_as (λ e. (x : A) × IsTable P e x)
              (λ e. (t : Members) → e ≡ table t → ⊥) (IsItem key) (IsFormless key) good formless one.0 one.1 bare.1,
        ),
      )
      | inr flawed ↦
          let Flawed : Data → Type 0 = λ e. (t : Members) × (e ≡ table t) × IsFirstFlaw (keys_of (named one.0)) t place.flaw in
          subst (λ (t : TableName). BreaksAt ms t place.flaw) (sym flawed.0) (inside one.0 place.flaw (
            before,
            (
              one.1,
              is.1 ∙ ap Some one.2,
              first_as (λ e. (x : A) × IsTable P e x) Flawed (IsItem key) Flawed good (λ d so. so) one.0
                  one.1 flawed.1,
            ),
          ))
    ]
  ]

-- if a table of a list isn't read, and those before it are, the list is bad at that table
pub first_bad : {A : Type 0} (P : Members → A → Type 0) (named : ℕ → TableName) (key : Key) (d : Data) (place : ShapePlace)
    (vs : List Value) (i : ℕ) (xs : List A) (v : Value) → d ≡ array (items_view vs) → i < length vs → get_or vs i v ≡ v →
    AreItems (IsTable P) (items_view (take i vs)) xs → IsBadTable named key i (view v) place → AreBadTables P named key d place
first_bad {A = A} P named key d place vs i xs v is within at are bad =
    let Said : Data → Type 0 = λ e. (x : A) × IsTable P e x in
    inr (
      i,
      items_view vs,
      is,
      elim bad [
        | inl bare ↦ inl (
          bare.0,
          first_item Said (λ e. (t : Members) → e ≡ table t → ⊥) (IsTable P) (λ e x so. (x, so)) vs i xs v within at
              are bare.1,
        )
        | inr flawed ↦ inr (
          flawed.0,
          first_item Said (λ e. (t : Members) × (e ≡ table t) × IsFirstFlaw (keys_of (named i)) t place.flaw) (IsTable P)
              (λ e x so. (x, so)) vs i xs v within at are (flawed.1, flawed.2, flawed.3),
        )
      ],
    )

-- the parameters: the table of an object with a number, an owner and one more key
module _ (which : TableName) (other : Key) (ms : Members) (keys : keys_of which ≡ ObjectNumber ∷ ObjectOwner ∷ other ∷ []) where
  pub before_number : IsTrue (has_only (codes "number" ∷ codes "owner" ∷ key_name other ∷ []) ms) →
      FitsBefore (keys_of which) ms ObjectNumber
  before_number known = rw keys (known, 0, refl, tt)

  pub before_owner : IsTrue (has_only (codes "number" ∷ codes "owner" ∷ key_name other ∷ []) ms) → (n : ℕ) →
      At (codes "number") IsNumber ms n → FitsBefore (keys_of which) ms ObjectOwner
  before_owner known n is = rw keys (known, 1, refl, ((n, is), tt))

  pub before_other : (numbers : ℕ × ℕ) → HasNumberAndOwner (key_name other) ms numbers → FitsBefore (keys_of which) ms other
  before_other numbers has = rw keys (has.known, 2, refl, ((numbers.0, has.number), ((numbers.1, has.owner), tt)))

-- if the fields of a process are read, the keys before its registers are good
pub before_registers : (i : ℕ) (ms : Members) (fields : ProcessFields) → HasProcessFields ms fields →
    FitsBefore (keys_of (name.Process i)) ms ProcessRegisters
before_registers i ms fields has = (
  has.known,
  7,
  refl,
  (
    (fields.root, has.root),
    (
      (fields.annex, has.annex),
      (
        (fields.owner, has.owner),
        ((fields.state, has.state), ((fields.key, has.key), ((fields.words, has.words), ((fields.space, has.space), tt)))),
      ),
    ),
  ),
)
