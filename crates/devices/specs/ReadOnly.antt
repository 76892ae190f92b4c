-- A device that only reads the sectors of another.
use Rattle.devices.specs.Names.{ℕ, Disk, Image, IsWhole, Agrees, arith, refl}
use Rattle.std.specs.Prelude.{◌≤◌}
use Rattle.devices.specs.declared.read_only.ReadOnly.{ReadOnly}

-- the device whose sectors are read
abbrev pub looked_at : {D : Type 0} → ReadOnly D → D
looked_at r = r.inner.now

-- a crash leaves these sectors
abbrev pub IsLeft : Disk → Image → Type 0
IsLeft d c = IsWhole d.sectors c × Agrees c d.seen

-- what a read of that device gives is left
pub seen_is_left : (d : Disk) → ((t : ℕ) (c : Image) → d.left_since t c → IsWhole d.sectors c) →
    ((t : ℕ) (c : Image) → t ≤ d.moment → d.may_leave c → d.left_since t c) → d.may_leave d.seen → IsLeft d d.seen
seen_is_left d left_whole counts_now seen_left =
    (left_whole d.moment d.seen (counts_now d.moment d.seen (omega arith) seen_left), λ i. refl)

-- the sectors of that device, which nothing changes
abbrev pub at_rest : {D : Type 0} → (D → Disk) → ReadOnly D → Disk
at_rest disk r = record {
  sectors = (disk r.inner.now).sectors;
  seen = (disk r.inner.now).seen;
  may_leave = IsLeft (disk r.inner.now);
  moment = 0;
  left_since = λ t. IsLeft (disk r.inner.now);
  failures = r.failures.number;
}
