-- What calls that only read, and what writes, may do to a device.
use Rattle.layout.specs.Names.{ℕ, Disk, Agrees, Elsewhere, Narrows, Tears, IsTorn, Elapses, LeavesOnly, Peeks}
use Rattle.std.specs.Prelude.{◌≡◌}

-- nothing was written, and nothing became durable
pub record ReadsOnly (old new : Disk) : Type 0 where
  pub size : new.sectors ≡ old.sectors
  pub seen : Agrees new.seen old.seen
  pub crash : Narrows old new
  pub nothing_durable : Narrows new old
  pub any_moment : Peeks old new
  pub time : Elapses old new

-- only the n sectors from `at` on may change; a crash may leave any bytes in them
pub record WritesAt (at n : ℕ) (old new : Disk) : Type 0 where
  pub size : new.sectors ≡ old.sectors
  pub elsewhere : Elsewhere at n old.seen new.seen
  pub crash : Tears at n old new
  pub any_moment : LeavesOnly old new (λ c. IsTorn at n old c)
  pub time : Elapses old new
