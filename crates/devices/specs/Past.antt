-- The events of a device with a record, and what a crash at each moment may leave.
use Rattle.devices.specs.Names.{ℕ, Bool, false, List, [], length, take, replicate, zero, suc, Image, IsWhole, Disk}
use Rattle.devices.specs.Names.{image_of}
use Rattle.std.specs.Prelude.{◌≡◌, ◌≤◌, ◌⊎◌, ◌+◌, ◌||◌, ◌==◌, if◌then◌else◌, ◌∷◌, ◌++◌}
use Rattle.devices.specs.declared.record.Outcome.{Outcome}
use Rattle.devices.specs.declared.record.Outcome.TheVariants.{Keep, Drop, Fill}

-- an event: a sector is written, all sectors are synced, or the power goes and comes back
pub data Event : Type 0 where
  wrote : ℕ → List ℕ → Event
  synced : Event
  cut : Outcome → Event

-- the sectors at one moment, as reads and as crashes see them
pub record State : Type 0 where
  pub present : Image  -- what a read gives
  pub durable : Image  -- what the last sync or power cut left
  pub unsynced : ℕ → Bool  -- which sectors were written since then

-- the state before any event
abbrev pub at_first : Image → State
at_first first = record { present = first; durable = first; unsynced = λ _. false }

-- what a power cut leaves
abbrev pub left_by : Outcome → State → Image
left_by Keep s = s.present
left_by Drop s = s.durable
left_by (Fill byte) s = λ i. if s.unsynced i then replicate 512 byte else s.durable i

-- the sectors after one more event
abbrev pub after : State → Event → State
after s (wrote n bytes) = record {
  present = λ i. if i == n then bytes else s.present i;
  durable = s.durable;
  unsynced = λ i. s.unsynced i || (i == n);
}
after s synced = record { present = s.present; durable = s.present; unsynced = λ _. false }
after s (cut outcome) = at_first (left_by outcome s)

-- the sectors after these events
abbrev pub replay : State → List Event → State
replay s [] = s
replay s (e ∷ es) = replay (after s e) es

-- a crash leaves the durable sectors, with any bytes in each unsynced sector
pub record MayLeave (sectors : ℕ) (s : State) (c : Image) : Type 0 where
  pub whole : IsWhole sectors c
  pub untouched : (i : ℕ) → s.unsynced i ≡ false → c i ≡ s.durable i

-- the disk of a device that began with the image `first` and then had these events
abbrev pub disk_of : ℕ → Image → List Event → ℕ → Disk
disk_of sectors first past failures = record {
  sectors = sectors;
  seen = (replay (at_first first) past).present;
  may_leave = MayLeave sectors (replay (at_first first) past);
  moment = length past;
  left_since = λ t c. (k : ℕ) × (t ≤ k) × (k ≤ length past) × MayLeave sectors (replay (at_first first) (take k past))
      c;
  failures = failures;
}

-- the events of a write of the first n of these sectors, in order
abbrev pub writes_of : ℕ → ℕ → List ℕ → List Event
writes_of at zero bytes = []
writes_of at (suc n) bytes = writes_of at n bytes ++ wrote (at + n) (image_of bytes n) ∷ []

-- nothing has happened yet, or the last event is a power cut
abbrev pub IsQuiet : List Event → Type 0
IsQuiet past = (past ≡ []) ⊎ ((front : List Event) × (outcome : Outcome) × (past ≡ front ++ cut outcome ∷ []))

-- a power cut adds its event; if the device was quiet, it may add none
abbrev pub EndsCut : Outcome → List Event → List Event → Type 0
EndsCut outcome old new = (new ≡ old ++ cut outcome ∷ []) ⊎ ((new ≡ old) × IsQuiet old)
