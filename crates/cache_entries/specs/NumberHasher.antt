-- The hash of a place of a cache entry.
use Rattle.std.specs.Prelude.{◌==◌, if◌then◌else◌, ℕ, ◌*◌, ◌%◌, ◌^◌, List, length, bit_xor}
use Rattle.std.specs.Int.{w64, from_le_bytes}
use Rattle.cache_entries.specs.declared.number_hasher.NumberHasher.{NumberHasher}

-- the number to hash for some bytes: the value of 8 bytes, lowest first; if there aren't 8, how many there are
abbrev pub number_in : List ℕ → ℕ
number_in bytes = if length bytes == 8 then from_le_bytes w64 bytes else length bytes

-- Fibonacci hashing: the product with 2^64 divided by the golden ratio
abbrev pub hashed : NumberHasher → List ℕ → NumberHasher
hashed h bytes = record { hash = (bit_xor h.hash (number_in bytes) * 0x9e37_79b9_7f4a_7c15) % 2 ^ 64 }
