-- How the history of the host's storage grows.
use Rattle.std.specs.Prelude.{ℕ, ◌+◌, List, [], ◌∷◌, ◌++◌}
use Rattle.devices.specs.Past.{Event}
use Rattle.vezhnake.specs.HostCalls.{HostCall, write, sync, power_cut, events_by}
use Rattle.vezhnake.specs.declared.history.History.{History}
use Rattle.vezhnake.specs.declared.history.Step.{Step}
use Rattle.vezhnake.specs.declared.history.Step.TheVariants.{Write, Sync, Cut, LostWrite, LostSync, LostCut}

-- the calls that a step records
abbrev pub recorded : Step → List HostCall
recorded (Write at bytes) = write at bytes.now ∷ []
recorded Sync = sync ∷ []
recorded Cut = power_cut ∷ []
recorded (LostWrite at bytes) = []
recorded LostSync = []
recorded LostCut = []

-- the events of a step that failed and so wasn't recorded; a failed sync has none
abbrev pub unrecorded : Step → List Event
unrecorded (Write at bytes) = []
unrecorded Sync = []
unrecorded Cut = []
unrecorded (LostWrite at bytes) = events_by (write at bytes.now)
unrecorded LostSync = []
unrecorded LostCut = events_by power_cut

-- how many calls failed in a step
abbrev pub failures_of : Step → ℕ
failures_of (Write at bytes) = 0
failures_of Sync = 0
failures_of Cut = 0
failures_of (LostWrite at bytes) = 1
failures_of LostSync = 1
failures_of LostCut = 0

-- the history of storage that holds these bytes, before any event
abbrev pub fresh : List ℕ → History
fresh bytes = record { first = bytes; calls = []; lost = []; failures = 0 }

-- the history after one more step
abbrev pub stepped : History → Step → History
stepped h step = record {
  first = h.first;
  calls = h.calls ++ recorded step;
  lost = h.lost ++ unrecorded step;
  failures = h.failures + failures_of step;
}
