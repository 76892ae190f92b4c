-- What sums and seals detect.
use Rattle.std.specs.Prelude.{◌≡◌, ℕ, ◌≤◌, List, length, replicate}
use Rattle.seal.specs.Damage.{DifferInBurst, IsRow, differences}
use Rattle.seal.specs.Seal.{IsSealed, body_of}
use Rattle.seal.specs.Sums.{Fit, numbers, sums_of}

-- if two rows differ in at most three 4-byte numbers, they have different sums
abbrev pub FewChangesChangeSums : Type 0
FewChangesChangeSums = (x y : List ℕ) → IsRow x → IsRow y → length x ≡ length y →
    differences (numbers x) (numbers y) ≤ 3 → sums_of x ≡ sums_of y → x ≡ y

-- rows that differ in a burst have different sums
abbrev pub BurstsChangeSums : Type 0
BurstsChangeSums = (i : ℕ) (x y : List ℕ) → IsRow x → IsRow y → DifferInBurst i x y → sums_of x ≡ sums_of y → x ≡ y

-- if two rows differ in a burst, at most one of them is sealed
abbrev pub BurstsBreakSeals : Type 0
BurstsBreakSeals = (i : ℕ) (x y : List ℕ) → IsRow x → IsRow y → DifferInBurst i x y → IsSealed x → IsSealed y → x ≡ y

abbrev pub SumsFit : Type 0
SumsFit = (row : List ℕ) → IsRow row → Fit (sums_of row)

-- a row of zeros with room for a seal is sealed
abbrev pub ZerosAreSealed : Type 0
ZerosAreSealed = (n : ℕ) → 24 ≤ n → IsSealed (replicate n 0)

-- sealed rows with the same body are the same
abbrev pub BodiesDecideSeals : Type 0
BodiesDecideSeals = (x y : List ℕ) → IsSealed x → IsSealed y → body_of x ≡ body_of y → x ≡ y
