-- The frames of objects that share a home.
use Rattle.migrator.specs.Names.{ℕ, List, Image, Entry, entry_at, home_place, shape_of, bytes_at, frame_in, shape_bytes}
use Rattle.migrator.specs.Names.{Plan, IsObject, frame_sector, place_length, row, true}
use Rattle.std.specs.Prelude.{◌≡◌, ◌+◌, ◌<◌}

-- these bytes contain the saved frame of each object that shares the home of `number`
abbrev pub IsGathered : Image → Plan → ℕ → List Entry → ℕ → List ℕ → Type 0
IsGathered image p generation es number bytes = (n : ℕ) → IsObject p.geometry n → home_place p n ≡ home_place p number →
    shape_bytes (shape_of p n) bytes ≡ frame_in image p generation es n

-- in `new`, the home of `number` has the saved frames of all objects that share it; in version 3 it has the whole block
-- that they are read from
pub record IsCopied (old new : Image) (p : Plan) (generation : ℕ) (es : List Entry) (number : ℕ) : Type 0 where
  pub frames : (n : ℕ) → IsObject p.geometry n → home_place p n ≡ home_place p number →
      bytes_at new (home_place p n) p n ≡ frame_in old p generation es n
  pub block : (row p.version).sealed ≡ true → (i : ℕ) → i < place_length p number →
      new (home_place p number + i) ≡ old (frame_sector p generation es number + i)

-- no earlier entry than i has an object with the same home
abbrev pub IsFirst : Plan → List Entry → ℕ → Type 0
IsFirst p es i = (j : ℕ) → j < i → home_place p (entry_at es j).object ≡ home_place p (entry_at es i).object → ⊥
