-- The bytes of sectors, by the number of sectors.
use Rattle.layout.proofs.Names.{nat_tests, ℕ, List, length, take, drop, arith, Image, sectors_of, sectors_from}
use Rattle.std.proofs.Common.{◌≡◌, ◌<◌, ◌+◌, ◌*◌, ◌/◌}
use Rattle.layout.proofs.Sectors.{whole_sectors}

pub sectors_are_of : (n : ℕ) (bytes : List ℕ) → length bytes ≡ 512 * n → sectors_of bytes ≡ n
sectors_are_of n bytes size = omega (arith, size)

-- if each 512 bytes are a sector of the image, all bytes are those of the n sectors
pub run_is : (image : Image) (at n : ℕ) (bytes : List ℕ) → length bytes ≡ 512 * n →
    ((i : ℕ) → i < length bytes / 512 → take 512 (drop (512 * i) bytes) ≡ image (at + i)) → sectors_from image at n ≡ bytes
run_is image at n bytes size same = grind (
  arith,
  nat_tests,
  sectors_are_of n bytes size,
  whole_sectors image at bytes (omega (arith, size)) same,
)
