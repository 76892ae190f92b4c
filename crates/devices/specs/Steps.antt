-- What a step of a file adds to its history.
use Rattle.devices.specs.Names.{ℕ, List, [], sectors_of}
use Rattle.std.specs.Prelude.{◌+◌, ◌∷◌, ◌++◌}
use Rattle.devices.specs.declared.record.Outcome.TheVariants.{Keep}
use Rattle.devices.specs.Past.{Event, synced, cut, writes_of}
use Rattle.devices.specs.declared.history.History.{History}
use Rattle.devices.specs.declared.history.Step.{Step}
use Rattle.devices.specs.declared.history.Step.TheVariants.{Held, Wrote, Synced, Cut, Failed}

-- the events of a step
abbrev pub events_of : Step → List Event
events_of (Held bytes) = []
events_of (Wrote at bytes) = writes_of at (sectors_of bytes.now) bytes.now
events_of Synced = synced ∷ []
events_of Cut = cut Keep ∷ []
events_of Failed = []

-- the bytes that the file held at first; a step `Held` reports more of them
abbrev pub first_after : List ℕ → Step → List ℕ
first_after first (Held bytes) = first ++ bytes.now
first_after first (Wrote at bytes) = first
first_after first Synced = first
first_after first Cut = first
first_after first Failed = first

-- how many calls fail in a step
abbrev pub failures_of : Step → ℕ
failures_of (Held bytes) = 0
failures_of (Wrote at bytes) = 0
failures_of Synced = 0
failures_of Cut = 0
failures_of Failed = 1

-- the history of a file with these bytes, before any event
abbrev pub fresh : List ℕ → History
fresh bytes = record { first = bytes; events = []; failures = 0 }

-- the history after one more step
abbrev pub stepped : History → Step → History
stepped h step = record {
  first = first_after h.first step;
  events = h.events ++ events_of step;
  failures = h.failures + failures_of step;
}
