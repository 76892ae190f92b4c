-- Sealed rows of bytes.
use Rattle.std.specs.Prelude.{◌≡◌, ℕ, ◌-◌, List, length, take, drop}
use Rattle.seal.specs.Sums.{sums_bytes, sums_of}

-- the body of a row: all but its last 24 bytes
abbrev pub body_of : List ℕ → List ℕ
body_of row = take (length row - 24) row

-- the last 24 bytes of a row, its seal
abbrev pub seal_of : List ℕ → List ℕ
seal_of row = drop (length row - 24) row

-- a row is sealed if its seal is the sums of its body
abbrev pub IsSealed : List ℕ → Type 0
IsSealed row = seal_of row ≡ sums_bytes (sums_of (body_of row))
