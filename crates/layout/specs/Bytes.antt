-- Numbers and zeros as bytes.
use Rattle.layout.specs.Names.{ℕ, List, replicate, little_bytes, little_number}

-- the eight bytes of a number, the lowest first
unfoldable pub number : ℕ → List ℕ
number n = little_bytes 8 n

-- the number that the first eight bytes encode
unfoldable pub number_from : List ℕ → ℕ
number_from bytes = little_number 8 bytes

-- the two bytes of a number, the lowest first
unfoldable pub short_number : ℕ → List ℕ
short_number n = little_bytes 2 n

-- the four bytes of a number, the lowest first
unfoldable pub half_number : ℕ → List ℕ
half_number n = little_bytes 4 n

-- n bytes of 0
unfoldable pub zeros : ℕ → List ℕ
zeros n = replicate n 0
