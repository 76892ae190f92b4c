-- What the sectors of a home hold, and which objects have it.
use Rattle.home_ranges.specs.Names.{ℕ, List, nat_lt, Geometry, Version, Image, home_place, shape_of, bytes_at}
use Rattle.home_ranges.specs.Names.{shape_bytes, Plan, IsBlankFrom, IsObject, row, shape_end}
use Rattle.std.specs.Prelude.{◌≡◌, ◌+◌, ◌<◌, ◌≤◌, if◌then◌else◌}

-- for each object that shares the home of `number`, the frame in the image is the one in these bytes
abbrev pub HoldsHome : Plan → ℕ → List ℕ → Image → Type 0
HoldsHome p number bytes image = (n : ℕ) → IsObject p.geometry n → home_place p n ≡ home_place p number →
    bytes_at image (home_place p n) p n ≡ shape_bytes (shape_of p n) bytes

-- the `n` numbers from `number` on share its home, and no later number does
pub record HaveHome (p : Plan) (number n : ℕ) : Type 0 where
  pub object : (k : ℕ) → k < n → IsObject p.geometry (number + k)
  pub same : (k : ℕ) → k < n → home_place p (number + k) ≡ home_place p number
  pub all : (a : ℕ) → IsObject p.geometry a → number ≤ a → home_place p a ≡ home_place p number → a < number + n

-- `first` is the least number with the home of `number`
pub record IsFirstOf (p : Plan) (number first : ℕ) : Type 0 where
  pub below : first ≤ number
  pub home : home_place p first ≡ home_place p number
  pub least : (a : ℕ) → IsObject p.geometry a → home_place p a ≡ home_place p number → first ≤ a

-- how many frames a block of this number's kind has
abbrev pub frames_in_block : Version → Geometry → ℕ → ℕ
frames_in_block v g number = if nat_lt number g.nodes then (row v).cluster_nodes else 1

-- byte `at` of a block lies after the frames of all objects that share the home of `number`
abbrev pub IsBehindAll : Plan → ℕ → ℕ → Type 0
IsBehindAll p number at = (n : ℕ) → IsObject p.geometry n → home_place p n ≡ home_place p number → shape_end
    (shape_of p n) ≤ at

-- after the frames of all objects that share the home of `number`, the block has only zeros
abbrev pub EndsInZeros : Plan → ℕ → List ℕ → Type 0
EndsInZeros p number bytes = (at : ℕ) → IsBehindAll p number at → IsBlankFrom at bytes
