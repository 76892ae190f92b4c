-- A device, described by what a read gives and what a crash may leave.
use Rattle.std.specs.Prelude.{◌≡◌, ◌<◌, ◌≤◌, ℕ, List, [], length, All}

-- the bytes of each sector, by the sector's number
abbrev pub Image : Type 0
Image = ℕ → List ℕ

-- the first `count` sectors have 512 bytes each, all below 256, and there are no others
pub record IsWhole (count : ℕ) (image : Image) : Type 0 where
  pub size : (i : ℕ) → i < count → length (image i) ≡ 512
  pub bytes : (i : ℕ) → All (λ b. b < 256) (image i)
  pub nothing_beyond : (i : ℕ) → count ≤ i → image i ≡ []

-- a device at one moment
pub record Disk : Type 1 where
  pub sectors : ℕ  -- how many there are
  pub seen : Image  -- what a read gives
  pub may_leave : Image → Type 0  -- what a crash now may leave
  pub moment : ℕ  -- a clock: this number never falls
  pub left_since : ℕ → Image → Type 0  -- what a crash at this moment or a later one might have left
  pub failures : ℕ  -- how many calls have failed
