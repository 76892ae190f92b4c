-- Sealed sectors of numbers.
use Rattle.layout.specs.Names.{ℕ, List, length, All, Sums, sums_bytes, sums_of}
use Rattle.std.specs.Prelude.{◌-◌, ◌*◌, ◌^◌, ◌<◌, ◌++◌}
use Rattle.layout.specs.Bytes.{zeros}
use Rattle.layout.specs.Frame.{words_bytes}
use Rattle.seal.specs.Seal.{body_of}

-- a body with its seal after it
unfoldable pub with_seal : List ℕ → List ℕ
with_seal body = body ++ sums_bytes (sums_of body)

-- a sector of 512 bytes: these 8-byte numbers, zeros, and a seal
unfoldable pub sector_bytes : List ℕ → List ℕ
sector_bytes ns = with_seal (words_bytes ns ++ zeros (488 - 8 * length ns))

-- the sums in the seal of a sealed row
abbrev pub seal_in : List ℕ → Sums
seal_in row = sums_of (body_of row)

-- each number fits 8 bytes
abbrev pub AreWords : List ℕ → Type 0
AreWords ns = All (λ n. n < 2 ^ 64) ns
