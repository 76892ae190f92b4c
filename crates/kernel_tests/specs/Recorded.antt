-- The calls on a recorded file.
use Rattle.std.specs.Prelude.{List, map, Option, Some}
use Rattle.devices.specs.OpeningCalls.{OpeningCall, opened, locked, synced, measured, got, resized, listed}
use Rattle.kernel_tests.specs.declared.recorded.Made.{Made}
use Rattle.kernel_tests.specs.declared.recorded.Made.TheVariants.{Opened, Locked, Synced, Measured, Got, Resized}
use Rattle.kernel_tests.specs.declared.recorded.Made.TheVariants.{Listed}

-- a recorded call, as the definitions of `devices` have it
abbrev pub call_of : Made → OpeningCall
call_of (Opened path access) = opened path.items access
call_of (Locked lock answer) = locked lock answer
call_of Synced = synced
call_of (Measured bytes) = measured bytes
call_of (Got at bytes) = got at bytes.items
call_of (Resized bytes) = resized bytes
call_of (Listed path) = listed path.items

-- all recorded calls, in order
abbrev pub calls_of : List Made → Option (List OpeningCall)
calls_of made = Some (map call_of made)
