-- What is written to a home, or to a log slot.
use Rattle.image_writer.specs.Names.{ℕ, Bool, List, Frame, frame_at, Image, frame_bytes, home_place, place_length}
use Rattle.image_writer.specs.Names.{shape_of, bytes_at, shape_bytes, Plan, IsObject, EndsInZeros, IsFirstOf}
use Rattle.image_writer.specs.Names.{sectors_from, nat_lt, length, take, row, range_with, IsCluster, IsSummed}
use Rattle.image_writer.specs.Names.{cluster_count, true, false}
use Rattle.std.specs.Prelude.{◌≡◌, ◌*◌}

-- these bytes contain the frame of each object that shares the home of `number`
abbrev pub AreFramesOf : Plan → List Frame → ℕ → List ℕ → Type 0
AreFramesOf p frames number bytes = (a : ℕ) → IsObject p.geometry a → home_place p a ≡ home_place p number →
    shape_bytes (shape_of p a) bytes ≡ frame_bytes p.geometry a (frame_at frames a)

-- a sealed cluster of the nodes from `first` on, or a page's block with its sums
abbrev pub IsUnitBy : Bool → Plan → ℕ → List ℕ → Type 0
IsUnitBy true p first block = IsCluster (cluster_count p.version (range_with p.ranges first) first) block
IsUnitBy false p first block = IsSummed block

-- how a block ends after the frames of all objects that share the home of `number`: in zeros; if it is sealed, as a unit
abbrev pub EndsBy : Bool → Plan → ℕ → List ℕ → Type 0
EndsBy false p number block = EndsInZeros p number block
EndsBy true p number block = (first : ℕ) → IsFirstOf p number first → IsUnitBy (nat_lt first p.geometry.nodes) p first block

abbrev pub Ends : Plan → ℕ → List ℕ → Type 0
Ends p number block = EndsBy (row p.version).sealed p number block

-- the block at sector `at` has zeros after the frames of all objects that share the home of `number`, and then its seal
-- in a version with seals
abbrev pub HasZeros : Plan → ℕ → ℕ → Image → Type 0
HasZeros p number at image = Ends p number (sectors_from image at (place_length p number))

-- the block at sector `at` has the frames of all objects that share the home of `number`, and then zeros, or a seal
pub record LieAt (p : Plan) (frames : List Frame) (number at : ℕ) (image : Image) : Type 0 where
  pub size : length (sectors_from image at (place_length p number)) ≡ 512 * place_length p number
  pub frame : (a : ℕ) → IsObject p.geometry a → home_place p a ≡ home_place p number →
      bytes_at image at p a ≡ frame_bytes p.geometry a (frame_at frames a)
  pub zeros : HasZeros p number at image

-- the part of a block that its seal is for: all of a cluster, or the first sector of a page's block
abbrev pub unit_part : Bool → List ℕ → List ℕ
unit_part true block = block
unit_part false block = take 512 block

abbrev pub unit_of : Plan → ℕ → List ℕ → List ℕ
unit_of p number block = unit_part (nat_lt number p.geometry.nodes) block
