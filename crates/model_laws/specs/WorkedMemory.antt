-- Worked rows: words that are read and written through address spaces.
use Rattle.std.specs.Prelude.{List, [], ◌∷◌}
use Rattle.model_laws.specs.Shown.{s0_registers}
use Rattle.model_laws.specs.Worked.{Row, at_world, row, s0}
use Prim.Native.String.{◌++◌}

-- loads through an empty slot and beyond the end of a space, and through a weak node to a page
abbrev pub finds_holes : Row
finds_holes = row (at_world s0) (
    ("call 1 10 4 2 0 0 0 0 0 0", "done") ∷
    ("send 1 1 9 0 0 0 28 0 0 0", "done") ∷ ("load 1 0", "memory fault 3") ∷ ("load 1 524288", "memory fault 2") ∷
    ("send 1 12 2 0 0 0 13 0 0 0", "done") ∷
    ("call 1 12 3 3 0 0 0 0 0 0", "done") ∷
    ("call 1 28 4 1 0 0 0 0 0 0", "done") ∷
    ("send 1 10 2 0 0 0 28 0 0 0", "done") ∷ ("load 1 0", "value 0") ∷
    ("store 1 0 9", "memory fault 5") ∷
    [])

-- a page at the wrong height and at the right one
abbrev pub finds_pages : Row
finds_pages = row (at_world s0) (
    ("send 1 10 2 0 0 0 13 0 0 0", "done") ∷
    ("call 1 10 4 2 0 0 0 0 0 0", "done") ∷
    ("send 1 1 9 0 0 0 28 0 0 0", "done") ∷ ("load 1 0", "memory fault 4") ∷
    ("call 1 10 4 1 0 0 0 0 0 0", "done") ∷
    ("send 1 1 9 0 0 0 28 0 0 0", "done") ∷
    ("store 1 3 7", "done") ∷ ("load 1 3", "value 7") ∷ ("load 1 512", "memory fault 3") ∷
    ("load 1 16384", "memory fault 2") ∷ ("show 16", "page 16 owner 0\nword 3 7\nend") ∷
    ("send 1 1 9 0 0 0 13 0 0 0", "done") ∷ ("load 1 3", "value 7") ∷ ("load 1 511", "value 0") ∷
    ("load 1 512", "memory fault 2") ∷
    ("call 1 1 8 0 0 0 0 0 0 0", "done") ∷ (
      "show 1",
      "process 1 owner 0 annex 2 running key 0 words 0 0 0 0 space page 16\n"
          ++ s0_registers ++ "register 28 page 16\nend",
    ) ∷
    [])

-- a page two levels down, by the digits of its index
abbrev pub reaches_deep : Row
reaches_deep = row (at_world s0) (
    ("call 1 12 4 1 0 0 0 0 0 0", "done") ∷
    ("send 1 10 2 3 0 0 28 0 0 0", "done") ∷
    ("send 1 12 2 5 0 0 13 0 0 0", "done") ∷
    ("call 1 10 4 2 0 0 0 0 0 0", "done") ∷
    ("send 1 1 9 0 0 0 28 0 0 0", "done") ∷
    ("store 1 51721 8", "done") ∷ ("load 1 51721", "value 8") ∷ ("show 16", "page 16 owner 0\nword 9 8\nend") ∷
    ("load 1 51200", "memory fault 3") ∷ ("load 1 0", "memory fault 3") ∷
    [])

-- a walk reaches a page only if each space capability on the way has a height one less than the one before
abbrev pub descends_by_one : Row
descends_by_one = row (at_world s0) (
    ("call 1 12 4 1 0 0 0 0 0 0", "done") ∷
    ("send 1 12 2 0 0 0 28 0 0 0", "done") ∷
    ("send 1 12 2 1 0 0 13 0 0 0", "done") ∷
    ("call 1 12 4 1 0 0 0 0 0 0", "done") ∷
    ("send 1 10 2 0 0 0 28 0 0 0", "done") ∷
    ("call 1 10 4 3 0 0 0 0 0 0", "done") ∷
    ("send 1 1 9 0 0 0 28 0 0 0", "done") ∷ ("load 1 512", "memory fault 4") ∷
    ("call 1 10 4 2 0 0 0 0 0 0", "done") ∷
    ("send 1 1 9 0 0 0 28 0 0 0", "done") ∷ ("load 1 512", "value 0") ∷ ("load 1 0", "memory fault 4") ∷
    [])

-- each capability on the way to a page restricts the access, and each slot on the way holds the right kind
abbrev pub restricts_ways : Row
restricts_ways = row (at_world s0) (
    ("call 1 13 3 1 0 0 0 0 0 0", "done") ∷
    ("send 1 10 2 7 0 0 28 0 0 0", "done") ∷
    ("call 1 10 4 1 0 0 0 0 0 0", "done") ∷
    ("send 1 1 9 0 0 0 28 0 0 0", "done") ∷ ("load 1 3584", "value 0") ∷
    ("store 1 3584 9", "memory fault 5") ∷
    ("send 1 12 2 0 0 0 13 0 0 0", "done") ∷
    ("call 1 12 4 1 0 0 0 0 0 0", "done") ∷
    ("call 1 28 3 1 0 0 0 0 0 0", "done") ∷
    ("send 1 10 2 2 0 0 28 0 0 0", "done") ∷
    ("send 1 10 2 4 0 0 12 0 0 0", "done") ∷ ("load 1 1024", "memory fault 4") ∷
    ("call 1 10 4 2 0 0 0 0 0 0", "done") ∷
    ("send 1 1 9 0 0 0 28 0 0 0", "done") ∷ ("load 1 32768", "value 0") ∷
    ("store 1 32768 9", "memory fault 5") ∷ ("load 1 114688", "memory fault 4") ∷ ("load 1 65536", "memory fault 4") ∷
    ("load 1 33280", "memory fault 3") ∷
    [])

-- the rows above
unfoldable pub references : List Row
references = finds_holes ∷ finds_pages ∷ reaches_deep ∷ descends_by_one ∷ restricts_ways ∷ []
