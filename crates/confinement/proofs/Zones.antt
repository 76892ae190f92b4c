-- Closed sets with the processes that members may start, and with ports: numbers whose objects may receive messages. `StaysWithin`: a
-- change that keeps everything else.
use Rattle.confinement.proofs.Names.{ℕ, Bool, true, false, List, IsTrue, Capability, Object, is_free, is_process, annex_at, content_at, object_at, IsKept}
use Rattle.confinement.proofs.Names.{IsClosedBut, StaysBut}
use Rattle.std.proofs.Common.{◌≡◌, ◌⊎◌}

pub record Zone : Type 0 where
  pub members : ℕ → Bool
  pub trusted : ℕ → Bool
  pub ports : ℕ → Bool

abbrev pub Stays : Zone → Capability → Type 0
Stays z c = StaysBut z.trusted z.members c

-- an object that members may change: a member or a port
abbrev pub MayChange : Zone → ℕ → Type 0
MayChange z n = IsTrue (z.members n) ⊎ IsTrue (z.ports n)

-- a process that may receive messages: a member, or one whose root and annex are ports
abbrev pub IsReceiver : Zone → ℕ → ℕ → Type 0
IsReceiver z p annex = IsTrue (z.members p) ⊎ (IsTrue (z.ports p) × IsTrue (z.ports annex))

-- the set is closed and contains every free number; the roots and annexes of trusted processes are ports
pub record Encloses (z : Zone) (os : List Object) : Type 0 where
  pub closed : IsClosedBut z.trusted os z.members
  pub free : (n : ℕ) → is_free (content_at os n) ≡ true → IsTrue (z.members n)
  pub receives : (p : ℕ) → IsTrue (z.trusted p) → IsTrue (is_process os p) → IsReceiver z p (annex_at os p)

-- a change keeps each object that is neither a member nor a port, and the set still encloses its members
pub record StaysWithin (z : Zone) (os us : List Object) : Type 0 where
  pub encloses : Encloses z us
  pub kept : (n : ℕ) → z.members n ≡ false → z.ports n ≡ false → IsKept z.members (object_at os n) (object_at us n)
