-- Reading the value at a key, and keys that are missing.
use Rattle.description.proofs.Names.{arith, List, Option, Some, None, Result, Ok, Err, Vec, Global, refl, sym, none-some, Data, Members, get_member, AtKey}
use Rattle.description.proofs.Names.{AtOr, Key, Misread, Reads, ShapePlace, MatchOption, key_name}
use Rattle.std.proofs.Common.{◌≡◌}
use Rattle.description.specs.declared.place.Misread.TheVariants as misread

pub defaulted : {A : Type 0} (P : Data → A → Type 0) (o : Option Data) → None ≡ o → (x : A) → MatchOption o (x ≡ x) (λ d. P d x)
defaulted P o is x = search (arith, none-some)

-- if a list was read from the value at a key, the table has it at that key
pub list_held : {A : Type 0} (P : Data → List A → Type 0) (Bad : Data → ShapePlace → Type 0) (default : List A) (key : Key) (ms : Members)
    (d : Data) (r : Result (Vec A Global) Misread) → Some d ≡ get_member (key_name key) ms → Reads (λ v. P d v.items) (Bad d) r →
    Reads (λ v. AtOr default (key_name key) P ms v.items) (AtKey key Bad ms) r
list_held P Bad default key ms d (Ok v) is reads = rw (← is) reads
list_held P Bad default key ms d (Err (misread.Misshapen place)) is reads = (d, sym is, reads)
list_held P Bad default key ms d (Err misread.NoMemory) is reads = tt

-- if a value that may be missing is read with one default, it can be read with another
pub with_default : {A : Type 0} (P : Data → A → Type 0) (o : Option Data) (x y a : A) → MatchOption o (a ≡ x) (λ d. P d a) →
    (b : A) × MatchOption o (b ≡ y) (λ d. P d b)
with_default P None x y a is = (y, refl)
with_default P (Some d) x y a is = (a, is)
