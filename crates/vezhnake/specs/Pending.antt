-- The calls that are kept until the host takes them.
use Rattle.std.specs.Prelude.{◌≡◌, ◌≢◌, ◌≤◌, ◌⊎◌, ℕ, List, length, drop}
use Rattle.vezhnake.specs.HostCalls.{HostCall, encoded}
use Rattle.vezhnake.specs.declared.pending.Pending.{Pending}

-- the calls from `start` on are kept, encoded
pub record Keeps (p : Pending) (calls : List HostCall) : Type 0 where
  pub bytes : p.bytes.items ≡ encoded (drop p.start calls)
  pub count : p.count ≡ length calls
  pub within : p.start ≤ length calls

-- if all calls were taken, their bytes are dropped; else nothing is dropped
abbrev pub DropsTaken : Pending → Pending → ℕ → Type 0
DropsTaken old new taken =
    ((taken ≡ old.count) × (new.start ≡ old.count)) ⊎ ((taken ≢ old.count) × (new.start ≡ old.start))
