-- What one call does to a device: which sectors change, and what a crash may leave afterwards.
use Rattle.std.specs.Prelude.{◌≡◌, ◌<◌, ◌≤◌, ◌↔◌, ℕ, ◌+◌, ◌*◌, ◌/◌, Bool, true, false, List, length, take, drop, Result}
use Rattle.std.specs.Prelude.{IsErr}
use Rattle.device.specs.Disk.{Image, Disk}

-- the same bytes in each sector
abbrev pub Agrees : Image → Image → Type 0
Agrees new old = (i : ℕ) → new i ≡ old i

-- the same bytes in each sector, except in the n sectors from `at` on
pub record Elsewhere (at n : ℕ) (old new : Image) : Type 0 where
  pub before : (i : ℕ) → i < at → new i ≡ old i
  pub after : (i : ℕ) → at + n ≤ i → new i ≡ old i

-- how many whole sectors these bytes fill
abbrev pub sectors_of : List ℕ → ℕ
sectors_of bytes = length bytes / 512

-- the image with these bytes, 512 in each sector
abbrev pub image_of : List ℕ → Image
image_of bytes i = take 512 (drop (512 * i) bytes)

-- these bytes are the sectors of the image from `at` on
abbrev pub AreSectors : Image → ℕ → List ℕ → Type 0
AreSectors image at bytes = (i : ℕ) → i < sectors_of bytes → image_of bytes i ≡ image (at + i)

-- in `new`, the sectors that pass the test are those of `from`, and the others those of `old`
pub record Patches (test : ℕ → Bool) (from old new : Image) : Type 0 where
  pub named : (i : ℕ) → test i ≡ true → new i ≡ from i
  pub others : (i : ℕ) → test i ≡ false → new i ≡ old i

-- a crash of `new` may leave only images that a crash of `old` may leave
abbrev pub Narrows : Disk → Disk → Type 0
Narrows old new = (c : Image) → new.may_leave c → old.may_leave c

-- c equals an image that a crash may leave, except in the n sectors from `at` on
abbrev pub IsTorn : ℕ → ℕ → Disk → Image → Type 0
IsTorn at n disk c = (d : Image) × disk.may_leave d × Elsewhere at n d c

-- a crash of `new` may leave only what a crash of `old` may leave, with any bytes in the n sectors from `at` on
abbrev pub Tears : ℕ → ℕ → Disk → Disk → Type 0
Tears at n old new = (c : Image) → new.may_leave c → IsTorn at n old c

-- a crash leaves this image and nothing else
abbrev pub Only : Image → Disk → Type 0
Only image disk = (c : Image) → disk.may_leave c → Agrees c image

-- the count of failures rises exactly if the call fails, and never falls
pub record Counts {T E : Type 0} (old new : Disk) (result : Result T E) : Type 0 where
  pub never_falls : old.failures ≤ new.failures
  pub cause : IsErr result ↔ (old.failures < new.failures)
