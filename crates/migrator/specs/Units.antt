-- Why the units of a sealed image aren't read.
use Rattle.migrator.specs.Names.{ℕ, Bool, List, Image, Entry, Plan, OpenFault, BadFrame, HasUnits, Sums, row, nat_lt}
use Rattle.migrator.specs.Names.{range_with_len, true, false, ⊤, [], place_length, sectors_from, IsTrue, flat_map}
use Rattle.migrator.specs.Names.{range_with, IsCluster, Unit, root_of, IsSummed, begins_unit, block_in, cluster_count}
use Rattle.migrator.specs.Names.{unit_in, units_in}
use Rattle.std.specs.Prelude.{◌≡◌, ◌<◌, ◌∷◌, if◌then◌else◌}
use Rattle.layout.specs.declared.open_fault.OpenFault.TheVariants as refusal

-- the block of a unit: a sealed cluster, or a page's block with its sums
abbrev pub IsUnitBy : Bool → Plan → ℕ → List ℕ → Type 0
IsUnitBy true p n block = IsCluster (cluster_count p.version (range_with p.ranges n) n) block
IsUnitBy false p n block = IsSummed block

-- the unit that object n begins is right where it is saved
abbrev pub IsUnitAt : Image → Plan → ℕ → List Entry → ℕ → Type 0
IsUnitAt image p generation es n = IsUnitBy (nat_lt n p.geometry.nodes) p n (block_in image p generation es n)

-- how many sectors the unit of a number takes: all of a cluster, or the header sector of a page; and its bytes, in the
-- block at a sector
abbrev pub unit_length : Plan → ℕ → ℕ
unit_length p n = if nat_lt n p.geometry.nodes then place_length p n else 1

abbrev pub unit_at : Image → Plan → ℕ → ℕ → List ℕ
unit_at image p n at = sectors_from image at (unit_length p n)

-- why the unit of object n wasn't read: the device failed, or its block isn't right
abbrev pub IsBadUnit : Image → Plan → ℕ → List Entry → ℕ → OpenFault → Type 0
IsBadUnit image p generation es n refusal.Failed = ⊤
IsBadUnit image p generation es n refusal.NoMemory = ⊥
IsBadUnit image p generation es n (refusal.Bad reason) = (reason ≡ BadFrame) × (IsUnitAt image p generation es n → ⊥)

-- the units of the numbers below k, by their numbers
abbrev pub units_until : Image → Plan → ℕ → List Entry → ℕ → List Unit
units_until image p generation es k =
    flat_map (λ n. if begins_unit p n then unit_in image p generation es n ∷ [] else []) (range_with_len 0 k)

-- the units of the numbers below k are right, and add up to this root
pub record AreUnits (image : Image) (p : Plan) (generation : ℕ) (es : List Entry) (k : ℕ) (root : Sums) : Type 0 where
  pub each : (n : ℕ) → n < k → IsTrue (begins_unit p n) → IsUnitAt image p generation es n
  pub root_is : root ≡ root_of (units_until image p generation es k)

-- why an image's units are refused, whatever its root is
abbrev pub HasBadUnit : Image → Plan → ℕ → List Entry → OpenFault → Type 0
HasBadUnit image p generation es refusal.Failed = ⊤
HasBadUnit image p generation es refusal.NoMemory = ⊥
HasBadUnit image p generation es (refusal.Bad reason) =
    (reason ≡ BadFrame) × ((root : Sums) → HasUnits image p root generation es → ⊥)

-- why an image's units are refused: the device failed, or the version has seals and they aren't those of the root
abbrev pub HasOtherUnits : Image → Plan → Sums → ℕ → List Entry → OpenFault → Type 0
HasOtherUnits image p root generation es refusal.Failed = ⊤
HasOtherUnits image p root generation es refusal.NoMemory = ⊥
HasOtherUnits image p root generation es (refusal.Bad reason) =
    (reason ≡ BadFrame) × ((row p.version).sealed ≡ true) × (HasUnits image p root generation es → ⊥)

-- `new` is the root of the state with these entries; without seals it is the old root
pub record IsNextRoot (image : Image) (p : Plan) (generation : ℕ) (es : List Entry) (root new : Sums) : Type 0 where
  pub sealed : (row p.version).sealed ≡ true → new ≡ root_of (units_in image p generation es)
  pub plain : (row p.version).sealed ≡ false → new ≡ root
