-- Facts that hold for all versions of the layout.
use Rattle.layout.proofs.Names.{ℕ, arith, Geometry, Version, row, IsOpened, aligned, directory_length, half_length, One, Two, Three, refl}
use Rattle.std.proofs.Common.{◌≡◌, ◌+◌, ◌-◌, ◌*◌, ◌/◌, ◌%◌, ◌≤◌}

pub aligned_least : (v : Version) (n : ℕ) → n ≤ aligned v n
aligned_least One n = omega arith
aligned_least Two n = omega arith
aligned_least Three n = omega arith

pub aligned_most : (v : Version) (n : ℕ) → aligned v n ≤ n + 7
aligned_most One n = omega arith
aligned_most Two n = omega arith
aligned_most Three n = omega arith

pub aligned_multiple : (v : Version) (n : ℕ) → aligned v n % (row v).alignment ≡ 0
aligned_multiple One n = omega arith
aligned_multiple Two n = omega arith
aligned_multiple Three n = omega arith

pub sum_multiple : (v : Version) (m n : ℕ) → m % (row v).alignment ≡ 0 → n % (row v).alignment ≡ 0 → (m + n) % (row v).alignment ≡ 0
sum_multiple One m n first second = omega arith
sum_multiple Two m n first second = omega arith
sum_multiple Three m n first second = omega (arith, first, second)

-- homes may begin right after the opening structures
pub first_multiple : (v : Version) → ((row v).first_home % (row v).alignment ≡ 0) × (5 ≤ (row v).first_home) × ((row v).first_home ≤ 56)
first_multiple One = (omega arith, omega arith, omega arith)
first_multiple Two = (omega arith, omega arith, omega arith)
first_multiple Three = (omega arith, omega arith, omega arith)

-- a log half has sectors for all its slots and for a directory of as many entries
pub half_has : (v : Version) (g : Geometry) → 9 * g.log + directory_length v g.log ≤ half_length v g
unfolding half_length
half_has v g = aligned_least v (9 * g.log + directory_length v g.log)

-- a directory of fewer entries takes no more sectors
pub fewer_entries : (v : Version) (n most : ℕ) → n ≤ most → directory_length v n ≤ directory_length v most
unfolding directory_length
fewer_entries One n most le = omega (arith, le)
fewer_entries Two n most le = omega (arith, le)
fewer_entries Three n most le = omega (arith, le)

-- a directory without entries takes no sector
pub no_sectors : (v : Version) → directory_length v 0 ≡ 0
unfolding directory_length
no_sectors One = refl
no_sectors Two = refl
no_sectors Three = refl

-- the directory of a log half takes at most 137 sectors
pub few_entries : (v : Version) (n : ℕ) → n ≤ 4096 → (n + (row v).sector_entries - 1) / (row v).sector_entries ≤ 137
few_entries One n few = omega (arith, few)
few_entries Two n few = omega (arith, few)
few_entries Three n few = omega (arith, few)

-- a log half takes at most 37008 sectors, a multiple of the alignment
pub half_few : (v : Version) (g : Geometry) → g.log ≤ 4096 → half_length v g ≤ 37008
unfolding half_length directory_length
half_few One g few = omega (arith, few)
half_few Two g few = omega (arith, few)
half_few Three g few = omega (arith, few)

pub half_multiple : (v : Version) (g : Geometry) → half_length v g % (row v).alignment ≡ 0
unfolding half_length
half_multiple v g = aligned_multiple v (9 * g.log + directory_length v g.log)

-- 16 bytes for each entry fit into the sectors of a directory
pub entries_lie : (v : Version) (n : ℕ) → 16 * n ≤ 512 * directory_length v n
unfolding directory_length
entries_lie One n = omega arith
entries_lie Two n = omega arith
entries_lie Three n = omega arith

-- in versions 1 and 2 a log half is as long as its slots and its directory
pub opened_half : (v : Version) (g : Geometry) → IsOpened v → half_length v g ≡ 9 * g.log + (g.log + 31) / 32
unfolding half_length directory_length
opened_half One g opened = omega arith
opened_half Two g opened = omega arith
opened_half Three g opened = absurd (cc opened)

-- the number of an image's first header
pub first_few : (v : Version) → (row v).first_sequence ≤ 2
first_few One = omega arith
first_few Two = omega arith
first_few Three = omega arith
