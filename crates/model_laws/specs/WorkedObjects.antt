-- Worked rows: pages and nodes, what is fetched through weak ones, and banks.
use Rattle.model_laws.specs.Names.{List, [], f0}
use Rattle.std.specs.Prelude.{◌∷◌}
use Rattle.model_laws.specs.Shown.{f0_registers, s0_registers, s0_with_weak, process_1}
use Rattle.model_laws.specs.Worked.{Row, at_world, b0, row, s0}
use Prim.Native.String.{◌++◌}

-- a page is written and read; a read beyond its end is refused
abbrev pub writes_page : Row
writes_page = row (at_world f0) (
    ("call 1 6 2 3 99 0 0 0 0 0", "done") ∷ ("show 1", process_1 "running key 0 words 0 0 0 0" f0_registers) ∷
    ("call 1 6 1 3 0 0 0 0 0 0", "done") ∷ ("show 1", process_1 "running key 0 words 0 99 0 0" f0_registers) ∷
    ("call 1 6 1 512 0 0 0 0 0 0", "done") ∷ ("show 1", process_1 "running key 0 words 3 0 0 0" f0_registers) ∷
    ("show 16", "page 16 owner 0\nword 3 99\nend") ∷
    ("call 1 6 2 511 7 0 0 0 0 0", "done") ∷
    ("call 1 6 1 511 0 0 0 0 0 0", "done") ∷ ("show 1", process_1 "running key 0 words 0 7 0 0" f0_registers) ∷
    [])

-- the orders on nodes, numbers and spaces; if several codes apply, the reply has the least
abbrev pub asks_nodes : Row
asks_nodes = row (at_world f0) (
    ("call 1 5 5 2 77 0 0 0 0 0", "done") ∷
    ("call 1 5 1 2 0 0 0 0 0 0", "done") ∷
    ("show 1", process_1 "running key 0 words 0 0 0 0" (f0_registers ++ "register 28 number 77\n")) ∷
    ("call 1 28 1 0 0 0 0 0 0 0", "done") ∷ ("show 1", process_1 "running key 0 words 0 77 0 0" f0_registers) ∷
    ("call 1 5 1 32 0 0 0 0 0 0", "done") ∷ ("show 1", process_1 "running key 0 words 3 0 0 0" f0_registers) ∷
    ("call 1 5 4 5 0 0 0 0 0 0", "done") ∷ ("show 1", process_1 "running key 0 words 3 0 0 0" f0_registers) ∷
    ("call 1 5 4 2 0 0 0 0 0 0", "done") ∷
    ("show 1", process_1 "running key 0 words 0 0 0 0" (f0_registers ++ "register 28 space 5 2\n")) ∷
    ("call 1 28 3 1 0 0 0 0 0 0", "done") ∷
    ("show 1", process_1 "running key 0 words 0 0 0 0" (f0_registers ++ "register 28 space 5 2 ro\n")) ∷
    ("call 1 28 1 0 0 0 0 0 0 0", "done") ∷ ("show 1", process_1 "running key 0 words 1 0 0 0" f0_registers) ∷
    ("call 1 5 3 2 0 0 0 0 0 0", "done") ∷ ("show 1", process_1 "running key 0 words 3 0 0 0" f0_registers) ∷
    ("call 1 5 3 1 0 0 0 0 0 0", "done") ∷
    ("show 1", process_1 "running key 0 words 0 0 0 0" (f0_registers ++ "register 28 node 5 ro\n")) ∷
    ("call 1 28 2 32 0 0 0 0 0 0", "done") ∷ ("show 1", process_1 "running key 0 words 2 0 0 0" f0_registers) ∷
    ("call 1 6 3 1 0 0 0 0 0 0", "done") ∷
    ("show 1", process_1 "running key 0 words 0 0 0 0" (f0_registers ++ "register 28 page 16 ro\n")) ∷
    ("call 1 28 2 512 1 0 0 0 0 0", "done") ∷ ("show 1", process_1 "running key 0 words 2 0 0 0" f0_registers) ∷
    ("show 5", "node 5 owner 0\nslot 2 number 77\nend") ∷
    [])

-- an access is reduced and never widened
abbrev pub reduces_further : Row
reduces_further = row (at_world f0) (
    ("call 1 5 3 3 0 0 0 0 0 0", "done") ∷
    ("call 1 28 3 1 0 0 0 0 0 0", "done") ∷
    ("show 1", process_1 "running key 0 words 0 0 0 0" (f0_registers ++ "register 28 node 5 weak\n")) ∷
    ("call 1 6 3 1 0 0 0 0 0 0", "done") ∷
    ("call 1 28 3 3 0 0 0 0 0 0", "done") ∷
    ("show 1", process_1 "running key 0 words 0 0 0 0" (f0_registers ++ "register 28 page 16 weak\n")) ∷
    ("call 1 28 3 1 0 0 0 0 0 0", "done") ∷
    ("show 1", process_1 "running key 0 words 0 0 0 0" (f0_registers ++ "register 28 page 16 weak\n")) ∷
    ("call 1 5 4 1 0 0 0 0 0 0", "done") ∷
    ("call 1 28 3 3 0 0 0 0 0 0", "done") ∷
    ("call 1 28 3 1 0 0 0 0 0 0", "done") ∷
    ("show 1", process_1 "running key 0 words 0 0 0 0" (f0_registers ++ "register 28 space 5 1 weak\n")) ∷
    [])

-- a page fetched through a weak node is weak, and refuses writes; void has no orders
abbrev pub diminishes_page : Row
diminishes_page = row (at_world f0) (
    ("call 1 5 2 0 0 0 6 0 0 0", "done") ∷ ("show 5", "node 5 owner 0\nslot 0 page 16\nend") ∷
    ("call 1 5 3 3 0 0 0 0 0 0", "done") ∷
    ("show 2", "annex 2 owner 0\nregister 5 node 5\nregister 6 page 16\nregister 28 node 5 weak\nend") ∷
    ("call 1 28 1 0 0 0 0 0 0 0", "done") ∷
    ("show 1", process_1 "running key 0 words 0 0 0 0" (f0_registers ++ "register 28 page 16 weak\n")) ∷
    ("call 1 28 2 0 9 0 0 0 0 0", "done") ∷ ("show 1", process_1 "running key 0 words 2 0 0 0" f0_registers) ∷
    ("call 1 0 1 0 0 0 0 0 0 0", "done") ∷ ("show 1", process_1 "running key 0 words 8 0 0 0" f0_registers) ∷
    [])

-- what a fetch through a weak node gives for a page, a start capability and a number
abbrev pub diminishes_all : Row
diminishes_all = row (at_world s0) (
    ("send 1 10 2 0 0 0 13 0 0 0", "done") ∷
    ("send 1 10 2 1 0 0 3 0 0 0", "done") ∷
    ("send 1 10 5 2 77 0 0 0 0 0", "done") ∷
    ("call 1 10 3 3 0 0 0 0 0 0", "done") ∷
    ("send 1 1 2 11 0 0 28 0 0 0", "done") ∷
    ("call 1 11 1 0 0 0 0 0 0 0", "done") ∷
    ("show 1", process_1 "running key 0 words 0 0 0 0" (s0_with_weak ++ "register 28 page 16 weak\n")) ∷
    ("call 1 11 1 1 0 0 0 0 0 0", "done") ∷ ("show 1", process_1 "running key 0 words 0 0 0 0" s0_with_weak) ∷
    ("call 1 11 1 2 0 0 0 0 0 0", "done") ∷
    ("show 1", process_1 "running key 0 words 0 0 0 0" (s0_with_weak ++ "register 28 number 77\n")) ∷
    [])

-- each kind of capability, fetched through a weak node
abbrev pub diminishes_kinds : Row
diminishes_kinds = row (at_world s0) (
    ("call 1 12 4 2 0 0 0 0 0 0", "done") ∷
    ("send 1 10 2 0 0 0 28 0 0 0", "done") ∷
    ("send 1 10 2 1 0 0 8 0 0 0", "done") ∷
    ("send 1 10 2 2 0 0 12 0 0 0", "done") ∷
    ("send 1 10 2 3 0 0 1 0 0 0", "done") ∷
    ("call 1 10 3 3 0 0 0 0 0 0", "done") ∷
    ("send 1 1 2 11 0 0 28 0 0 0", "done") ∷
    ("call 1 11 1 0 0 0 0 0 0 0", "done") ∷
    ("show 2", "annex 2 owner 0\n" ++ s0_with_weak ++ "register 28 space 6 2 weak\nend") ∷
    ("call 1 11 1 1 0 0 0 0 0 0", "done") ∷ ("show 2", "annex 2 owner 0\n" ++ s0_with_weak ++ "end") ∷
    ("call 1 11 1 2 0 0 0 0 0 0", "done") ∷
    ("show 2", "annex 2 owner 0\n" ++ s0_with_weak ++ "register 28 node 6 weak\nend") ∷
    ("call 1 11 1 3 0 0 0 0 0 0", "done") ∷ ("show 2", "annex 2 owner 0\n" ++ s0_with_weak ++ "end") ∷
    ("call 1 10 1 1 0 0 0 0 0 0", "done") ∷
    ("show 2", "annex 2 owner 0\n" ++ s0_with_weak ++ "register 28 discrim\nend") ∷
    [])

-- a discrim capability replies with the kind of the capability sent to it
abbrev pub classifies : Row
classifies = row (at_world s0) (
    ("call 1 8 1 0 0 0 1 0 0 0", "done") ∷ ("show 1", process_1 "running key 0 words 0 5 0 0" s0_registers) ∷
    ("call 1 8 1 0 0 0 3 0 0 0", "done") ∷ ("show 1", process_1 "running key 0 words 0 6 0 0" s0_registers) ∷
    ("call 1 8 1 0 0 0 8 0 0 0", "done") ∷ ("show 1", process_1 "running key 0 words 0 9 0 0" s0_registers) ∷
    ("call 1 8 1 0 0 0 0 0 0 0", "done") ∷ ("show 1", process_1 "running key 0 words 0 0 0 0" s0_registers) ∷
    ("call 1 10 3 3 0 0 0 0 0 0", "done") ∷
    ("call 1 8 1 0 0 0 28 0 0 0", "done") ∷ ("show 1", process_1 "running key 0 words 0 3 3 0" s0_registers) ∷
    ("call 1 8 2 0 0 0 1 0 0 0", "done") ∷ ("show 1", process_1 "running key 0 words 1 0 0 0" s0_registers) ∷
    [])

-- objects of a bank's sub-banks count against its limit
abbrev pub shows_banks : Row
shows_banks = row (at_world b0) (
    ("show 0", "bank 0 owner 0 limit 1000 used 5\nend") ∷ ("show 5", "bank 5 owner 0 limit 10 used 2\nend") ∷
    ("show 6", "bank 6 owner 5 limit 2 used 1\nend") ∷ ("show 16", "page 16 owner 6\nend") ∷
    ("show 2", "annex 2 owner 0\nregister 6 page 16\nend") ∷ ("show 3", "free 3\nend") ∷
    ("call 1 6 2 0 1 0 0 0 0 0", "done") ∷ ("show 16", "page 16 owner 6\nword 0 1\nend") ∷
    ("show 0", "bank 0 owner 0 limit 1000 used 5\nend") ∷
    [])

-- the rows above
unfoldable pub objects : List Row
objects =
    writes_page ∷ asks_nodes ∷ reduces_further ∷ diminishes_page
    ∷ diminishes_all ∷ diminishes_kinds ∷ classifies ∷ shows_banks ∷ []
