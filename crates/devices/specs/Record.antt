-- The record of a device in memory: what was done to it.
use Rattle.devices.specs.Names.{ℕ, zero, suc, Bool, false, List, [], Option, Some, None, unwrap_or, image_of}
use Rattle.std.specs.Prelude.{◌+◌, ◌||◌, ◌==◌, ◌∷◌, ◌++◌}
use Rattle.devices.specs.declared.record.Outcome.{Outcome}
use Rattle.devices.specs.declared.record.Action.{Action}
use Rattle.devices.specs.declared.record.Action.TheVariants.{Wrote, Synced}
use Rattle.devices.specs.declared.record.RecordEntry.{RecordEntry}
use Rattle.devices.specs.Past.{Event, wrote, synced, cut}

-- the event of an action
abbrev pub event_of : Action → Event
event_of (Wrote sector bytes) = wrote sector bytes
event_of Synced = synced

-- the event of a mark: the power cut that came after an entry, if one did
abbrev pub mark_of : Option Outcome → List Event
mark_of None = []
mark_of (Some outcome) = cut outcome ∷ []

-- the events of an entry, and of entries in order
abbrev pub entry_events : RecordEntry → List Event
entry_events e = event_of e.action ∷ mark_of e.cut

abbrev pub events_of : List RecordEntry → List Event
events_of [] = []
events_of (e ∷ es) = entry_events e ++ events_of es

-- this action wrote sector i
abbrev pub writes : Action → ℕ → Bool
writes (Wrote sector bytes) i = i == sector
writes Synced i = false

-- one of these entries wrote sector i
abbrev pub names : List RecordEntry → ℕ → Bool
names [] i = false
names (e ∷ es) i = writes e.action i || names es i

-- the entries of a write of the first n of these sectors, in order
abbrev pub entries_of : ℕ → ℕ → List ℕ → List RecordEntry
entries_of at zero bytes = []
entries_of at (suc n) bytes = entries_of at n bytes ++ record { action = Wrote (at + n) (image_of bytes n); cut = None }
    ∷ []

-- the entry with a mark for a power cut, unless it already has one
abbrev pub mark_after : Outcome → RecordEntry → RecordEntry
mark_after outcome e = record { action = e.action; cut = Some (unwrap_or e.cut outcome) }

-- the entries, the last of them with a mark for a power cut
abbrev pub marked : Outcome → List RecordEntry → List RecordEntry
marked outcome [] = []
marked outcome (e ∷ []) = mark_after outcome e ∷ []
marked outcome (e ∷ (f ∷ es)) = e ∷ marked outcome (f ∷ es)
