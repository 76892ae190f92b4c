-- Results of functions that read a table, stated over any property of what is read.
use Rattle.description.specs.Names.{ℕ, Result, Ok, Err, Option, Some, None, Data, Items, Members, array, table}
use Rattle.description.specs.Names.{get_member, List}
use Rattle.std.specs.Prelude.{◌≡◌, ◌⊎◌}
use Rattle.description.specs.Reading.{IsTable}
use Rattle.description.specs.Shapes.{IsFirstFlaw, IsFirstItem, first_unknown, key_name, keys_of, misfit}
use Rattle.description.specs.declared.fault.BuildFault.{BuildFault}
use Rattle.description.specs.declared.fault.BuildFault.TheVariants as fault
use Rattle.description.specs.declared.flaw.WorldFault.{WorldFault}
use Rattle.description.specs.declared.flaw.WorldFault.TheVariants as world
use Rattle.description.specs.declared.place.Flaw.{Flaw}
use Rattle.description.specs.declared.place.Flaw.TheVariants.{Unknown, Misfit, Item}
use Rattle.description.specs.declared.place.Key.{Key}
use Rattle.description.specs.declared.place.Misread.{Misread}
use Rattle.description.specs.declared.place.Misread.TheVariants.{Misshapen, NoMemory}
use Rattle.description.specs.declared.place.ShapePlace.{ShapePlace}
use Rattle.description.specs.declared.place.TableName.{TableName}
use Rattle.description.specs.declared.place.TableName.TheVariants as name

-- the value has P; or there is none, because no value has P
abbrev pub Finds : {A : Type 0} → (A → Type 0) → Option A → Type 0
Finds P (Some x) = P x
Finds {A = A} P None = (x : A) → P x → ⊥

-- the error is a place with the property `At`, or lack of memory
abbrev pub Misses : (ShapePlace → Type 0) → Misread → Type 0
Misses At (Misshapen place) = At place
Misses At NoMemory = Unit {0}

-- the result is a value with P, or an error that `Misses` describes
abbrev pub Reads : {A : Type 0} → (A → Type 0) → (ShapePlace → Type 0) → Result A Misread → Type 0
Reads P At (Ok x) = P x
Reads P At (Err e) = Misses At e

-- The place is this key, whose value encodes nothing: P, the property of what it would encode, holds of no x.
abbrev pub IsMisfit : {A : Type 0} → TableName → Key → (A → Type 0) → ShapePlace → Type 0
IsMisfit {A = A} which key P place = (place ≡ misfit which key) × ((x : A) → P x → ⊥)

-- the place is the first flaw of this table
abbrev pub IsIn : TableName → Members → ShapePlace → Type 0
IsIn which ms place = (place.table ≡ which) × IsFirstFlaw (keys_of which) ms place.flaw

-- the flaw is the first unknown key
abbrev pub IsUnknown : List (List ℕ) → Members → Flaw → Type 0
IsUnknown names ms (Unknown key) = first_unknown names ms ≡ Some key.now
IsUnknown names ms _ = ⊥

abbrev pub IsStranger : TableName → List (List ℕ) → Members → ShapePlace → Type 0
IsStranger which names ms place = (place.table ≡ which) × IsUnknown names ms place.flaw

-- the flaw at this key: its value is no list; or its first bad item has the property `So`
abbrev pub IsBadList : (Data → Type 0) → (Data → Type 0) → Key → Data → Flaw → Type 0
IsBadList Good So key d (Unknown k) = ⊥
IsBadList Good So key d (Misfit k) = (k ≡ key) × ((ds : Items) → d ≡ array ds → ⊥)
IsBadList Good So key d (Item k i) = (k ≡ key) × (ds : Items) × (d ≡ array ds) × IsFirstItem Good So i ds

-- the place is the flaw of a list of entries
abbrev pub AreBadEntries : {A : Type 0} → (Data → A → Type 0) → TableName → Key → Data → ShapePlace → Type 0
AreBadEntries {A = A} P which key d place = (place.table ≡ which) ×
    IsBadList (λ e. (x : A) × P e x) (λ e. ((x : A) × P e x) → ⊥) key d place.flaw

-- the value at index i is no table, or the place is the first flaw of that table
abbrev pub IsBadTable : (ℕ → TableName) → Key → ℕ → Data → ShapePlace → Type 0
IsBadTable named key i d place =
    ((place ≡ record { table = name.Whole; flaw = Item key i }) × ((ms : Members) → d ≡ table ms → ⊥))
    ⊎ ((place.table ≡ named i) × (ms : Members) × (d ≡ table ms) × IsFirstFlaw (keys_of (named i)) ms place.flaw)

-- the place is the flaw of a list of tables: the value is no list, its first bad item is no table, or that table has
-- a flaw
abbrev pub AreBadTables : {A : Type 0} → (Members → A → Type 0) → (ℕ → TableName) → Key → Data → ShapePlace → Type 0
AreBadTables {A = A} P named key d place =
    ((place ≡ misfit name.Whole key) × ((ds : Items) → d ≡ array ds → ⊥)) ⊎ ((i : ℕ) × (ds : Items) × (d ≡ array ds) ×
    (((place ≡ record { table = name.Whole; flaw = Item key i }) ×
    IsFirstItem (λ e. (x : A) × IsTable P e x) (λ e. (ms : Members) → e ≡ table ms → ⊥) i ds)
    ⊎ ((place.table ≡ named i) × IsFirstItem (λ e. (x : A) × IsTable P e x)
    (λ e. (ms : Members) × (e ≡ table ms) × IsFirstFlaw (keys_of (named i)) ms place.flaw) i ds)))

-- the table has a value at this key, and the value is bad at this place
abbrev pub AtKey : Key → (Data → ShapePlace → Type 0) → Members → ShapePlace → Type 0
AtKey key Bad ms place = (d : Data) × (get_member (key_name key) ms ≡ Some d) × Bad d place

-- the fault if a table can't be read
abbrev pub misread_fault : Misread → BuildFault
misread_fault (Misshapen place) = fault.Shape
misread_fault NoMemory = fault.NoMemory

-- the fault if a description names no frames
abbrev pub world_fault : WorldFault → BuildFault
world_fault (world.Number n) = fault.Number
world_fault (world.Field p) = fault.Field
world_fault (world.Target h) = fault.Target
world_fault world.NoMemory = fault.NoMemory
