-- The statuses, and the numbers that C gets for them.
use Rattle.vezhnake.specs.Names.{ℕ, Result, Ok, Err, reason_number, OpenFault}
use Rattle.layout.specs.declared.open_fault.OpenFault.TheVariants as fault
use Rattle.vezhnake.specs.declared.session.CallsFault.{CallsFault}
use Rattle.vezhnake.specs.declared.session.CallsFault.TheVariants as lost
use Rattle.vezhnake.specs.declared.status.Status.{Status}
use Rattle.vezhnake.specs.declared.status.Status.TheVariants as status

-- the status if no kernel was opened
abbrev pub status_by : OpenFault → Status
status_by fault.Failed = status.Failed
status_by fault.NoMemory = status.NoMemory
status_by (fault.Bad reason) = status.Bad reason

-- the status if device calls can't wait for the host
abbrev pub status_for : CallsFault → Status
status_for lost.NoMemory = status.NoMemory
status_for lost.CallsLost = status.CallsLost

-- the status of a call that did its work: `Done`, unless its device calls can't wait for the host
abbrev pub kept_status : Result (Unit {0}) CallsFault → Status
kept_status (Ok done) = status.Done
kept_status (Err why) = status_for why

-- the number of a status
abbrev pub number_of : Status → ℕ
number_of status.Done = 0
number_of (status.Bad reason) = reason_number reason
number_of status.NoMemory = 11
number_of status.BadSize = 12
number_of status.BadCache = 13
number_of status.AlreadyOpen = 14
number_of status.NotOpen = 15
number_of status.SmallBuffer = 16
number_of status.CallsLost = 17
number_of status.Failed = 18
number_of status.BadCommand = 19
