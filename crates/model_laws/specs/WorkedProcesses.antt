-- Worked rows: processes that start, answer and wait, and the orders on them.
use Rattle.model_laws.specs.Names.{List, [], i0}
use Rattle.std.specs.Prelude.{◌∷◌}
use Rattle.model_laws.specs.Shown.{i0_registers, process_1, process_3}
use Rattle.model_laws.specs.Worked.{Row, at_world, row}
use Prim.Native.String.{◌++◌}

-- a process that calls another starts it, and waits
abbrev pub starts_process : Row
starts_process = row (at_world i0) (
    ("call 1 3 5 0 0 0 2 0 0 0", "done") ∷
    ("show 3", process_3 "running key 7 words 5 0 0 0" "register 28 bank 0\nregister 31 resume 1\n") ∷
    ("call 1 2 1 0 0 0 0 0 0 0", "not running") ∷ ("show 1", process_1 "waiting key 0 words 0 0 0 0" i0_registers) ∷
    [])

-- once a resume capability is used, every copy of it is void
abbrev pub answers_once : Row
answers_once = row (at_world i0) (
    ("call 1 3 5 0 0 0 4 2 0 0", "done") ∷
    ("send 3 28 2 5 0 0 31 0 0 0", "done") ∷
    ("return 3 31 9 0 0 0 5 0 0 0", "done") ∷
    ("show 3", process_3 "available key 7 words 5 0 0 0" "register 28 process 3\nregister 29 bank 0\n") ∷
    ("show 1", process_1 "running key 0 words 9 0 0 0" i0_registers) ∷
    [])

-- a running or waiting process cannot be started
abbrev pub stalls : Row
stalls = row (at_world i0) (
    ("send 1 3 5 0 0 0 2 0 0 0", "done") ∷
    ("call 1 3 6 0 0 0 0 0 0 0", "stalled") ∷
    ("send 1 3 5 0 0 0 2 0 0 0", "stalled") ∷
    ("return 1 3 6 0 0 0 0 0 0 0", "stalled") ∷
    ("cut", "at 0 0") ∷
    ("call 1 1 5 8 0 0 0 0 0 0", "done") ∷
    ("call 1 3 5 0 0 0 28 0 0 0", "done") ∷
    ("show 1", process_1 "waiting key 0 words 0 0 0 0" (i0_registers ++ "register 28 start 1 8\n")) ∷
    ("send 3 28 6 0 0 0 0 0 0 0", "stalled") ∷
    [])

-- a process is set running, makes itself available, is started and answers
abbrev pub sets_state : Row
sets_state = row (at_world i0) (
    ("call 1 4 7 1 0 0 0 0 0 0", "done") ∷
    ("call 1 3 5 0 0 0 0 0 0 0", "stalled") ∷
    ("return 3 0 1 0 0 0 0 0 0 0", "done") ∷
    ("call 1 3 5 0 0 0 0 0 0 0", "done") ∷
    ("send 3 31 1 2 3 4 0 0 0 0", "done") ∷ ("show 1", process_1 "running key 0 words 1 2 3 4" i0_registers) ∷
    [])

-- a waiting process that is set to running or available can no longer be resumed
abbrev pub sets_state_once : Row
sets_state_once = row (at_world i0) (
    ("call 1 3 5 0 0 0 1 0 0 0", "done") ∷
    ("show 3", process_3 "running key 7 words 5 0 0 0" "register 28 process 1\nregister 31 resume 1\n") ∷
    ("send 3 28 7 1 0 0 0 0 0 0", "done") ∷
    ("show 3", process_3 "running key 7 words 5 0 0 0" "register 28 process 1\n") ∷
    ("show 1", process_1 "running key 0 words 0 0 0 0" i0_registers) ∷
    ("cut", "at 0 0") ∷
    ("call 1 3 5 0 0 0 1 0 0 0", "done") ∷
    ("send 3 28 7 0 0 0 0 0 0 0", "done") ∷
    ("show 3", process_3 "running key 7 words 5 0 0 0" "register 28 process 1\n") ∷
    ("show 1", process_1 "available key 0 words 0 0 0 0" i0_registers) ∷
    [])

-- a process returns to itself
abbrev pub starts_itself : Row
starts_itself = row (at_world i0) (
    ("call 1 1 5 8 0 0 0 0 0 0", "done") ∷
    ("return 1 28 6 0 0 0 2 0 0 0", "done") ∷
    ("show 1", process_1 "running key 8 words 6 0 0 0" (i0_registers ++ "register 28 bank 0\n")) ∷
    [])

-- an answer has key 0, whether a process or the kernel answers
abbrev pub resets_key : Row
resets_key = row (at_world i0) (
    ("call 1 1 5 8 0 0 0 0 0 0", "done") ∷
    ("return 1 28 6 0 0 0 2 0 0 0", "done") ∷
    ("show 1", process_1 "running key 8 words 6 0 0 0" (i0_registers ++ "register 28 bank 0\n")) ∷
    ("call 1 0 1 0 0 0 0 0 0 0", "done") ∷ ("show 1", process_1 "running key 0 words 8 0 0 0" i0_registers) ∷
    ("call 1 1 5 8 0 0 0 0 0 0", "done") ∷
    ("return 1 28 6 0 0 0 2 0 0 0", "done") ∷
    ("call 1 3 5 0 0 0 0 0 0 0", "done") ∷
    ("send 3 31 1 2 3 4 0 0 0 0", "done") ∷ ("show 1", process_1 "running key 0 words 1 2 3 4" i0_registers) ∷
    [])

-- a reply of the kernel makes registers 28 to 31 void
abbrev pub clears_registers : Row
clears_registers = row (at_world i0) (
    ("call 1 3 5 0 0 0 4 2 0 0", "done") ∷ (
      "show 3",
      process_3 "running key 7 words 5 0 0 0"
          "register 28 process 3\nregister 29 bank 0\nregister 31 resume 1\n",
    ) ∷
    ("call 3 0 1 0 0 0 0 0 0 0", "done") ∷ ("show 3", process_3 "running key 0 words 8 0 0 0" "") ∷
    ("show 1", process_1 "waiting key 0 words 0 0 0 0" i0_registers) ∷
    [])

-- the orders on processes
abbrev pub asks_processes : Row
asks_processes = row (at_world i0) (
    ("send 1 1 4 2 55 0 0 0 0 0", "done") ∷ ("show 1", process_1 "running key 0 words 0 0 55 0" i0_registers) ∷
    ("call 1 1 3 2 0 0 0 0 0 0", "done") ∷ ("show 1", process_1 "running key 0 words 0 55 0 0" i0_registers) ∷
    ("call 1 1 3 4 0 0 0 0 0 0", "done") ∷ ("show 1", process_1 "running key 0 words 3 0 0 0" i0_registers) ∷
    ("call 1 1 6 0 0 0 0 0 0 0", "done") ∷ ("show 1", process_1 "running key 0 words 0 1 0 0" i0_registers) ∷
    ("call 1 1 5 9 0 0 0 0 0 0", "done") ∷
    ("show 1", process_1 "running key 0 words 0 0 0 0" (i0_registers ++ "register 28 start 1 9\n")) ∷
    ("call 1 1 5 65536 0 0 0 0 0 0", "done") ∷ ("show 1", process_1 "running key 0 words 3 0 0 0" i0_registers) ∷
    ("call 1 1 1 2 0 0 0 0 0 0", "done") ∷
    ("show 1", process_1 "running key 0 words 0 0 0 0" (i0_registers ++ "register 28 bank 0\n")) ∷
    ("call 1 1 2 0 0 0 4 0 0 0", "done") ∷ ("show 1", process_1 "running key 0 words 3 0 0 0" i0_registers) ∷
    ("call 1 1 2 9 0 0 4 0 0 0", "done") ∷
    ("show 1", process_1 "running key 0 words 0 0 0 0" (i0_registers ++ "register 9 process 3\n")) ∷
    ("call 1 1 9 0 0 0 4 0 0 0", "done") ∷
    ("show 1", process_1 "running key 0 words 4 0 0 0" (i0_registers ++ "register 9 process 3\n")) ∷
    ("call 1 1 10 0 0 0 0 0 0 0", "done") ∷
    ("show 1", process_1 "running key 0 words 1 0 0 0" (i0_registers ++ "register 9 process 3\n")) ∷
    ("call 1 1 7 0 0 0 0 0 0 0", "done") ∷
    ("call 1 1 6 0 0 0 0 0 0 0", "not running") ∷
    ("show 1", process_1 "available key 0 words 1 0 0 0" (i0_registers ++ "register 9 process 3\n")) ∷
    [])

-- the rows above
unfoldable pub processes : List Row
processes =
    starts_process ∷ answers_once ∷ stalls ∷ sets_state
    ∷ sets_state_once ∷ starts_itself ∷ resets_key ∷ clears_registers ∷ asks_processes ∷ []
