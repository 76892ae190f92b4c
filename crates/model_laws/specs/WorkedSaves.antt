-- Worked rows: checkpoints and journals.
use Rattle.model_laws.specs.Names.{List, [], f0, i0}
use Rattle.std.specs.Prelude.{◌∷◌}
use Rattle.model_laws.specs.Worked.{Row, at_world, row, s0}
use Prim.Native.String.{String}

-- what is written after a checkpoint is not saved by its commit; the saved objects go home
abbrev pub saves : Row
saves = row (at_world f0) (
    ("call 1 6 2 0 42 0 0 0 0 0", "done") ∷ ("checkpoint", "frozen 3") ∷
    ("send 1 6 2 0 43 0 0 0 0 0", "done") ∷ ("stabilize 5", "left 0") ∷ ("commit", "committed 1") ∷
    ("commit", "no checkpoint") ∷ ("stabilize 1", "no checkpoint") ∷
    ("cut", "at 1 2") ∷ ("show 16", "page 16 owner 0\nword 0 42\nend") ∷ ("checkpoint", "migration pending") ∷
    ("migrate 2", "left 1") ∷
    ("cut", "at 1 2") ∷ ("migrate 1", "left 2") ∷ ("migrate 9", "left 0") ∷ ("checkpoint", "frozen 0") ∷
    ("commit", "committed 2") ∷
    ("cut", "at 2 3") ∷
    [])

-- a store is saved as other writes are, and does not raise the age
abbrev pub saves_stores : Row
saves_stores = row (at_world s0) (
    ("send 1 1 9 0 0 0 13 0 0 0", "done") ∷
    ("store 1 0 5", "done") ∷ ("checkpoint", "frozen 2") ∷
    ("store 1 0 6", "done") ∷ ("load 1 0", "value 6") ∷ ("stabilize 2", "left 0") ∷ ("commit", "committed 1") ∷
    ("restart", "at 1 2") ∷ ("load 1 0", "value 5") ∷
    [])

-- a checkpoint that is not committed is lost
abbrev pub forgets : Row
forgets = row (at_world f0) (
    ("call 1 6 2 0 42 0 0 0 0 0", "done") ∷ ("checkpoint", "frozen 3") ∷ ("checkpoint", "checkpoint running") ∷
    ("commit", "not stable 3") ∷ ("stabilize 2", "left 1") ∷ ("commit", "not stable 1") ∷
    ("send 1 6 2 0 43 0 0 0 0 0", "done") ∷ ("stabilize 5", "left 0") ∷
    ("cut", "at 0 0") ∷ ("show 16", "page 16 owner 0\nend") ∷
    [])

-- which numbers an invocation or a store writes, as the next checkpoint counts them
abbrev pub counts_written : Row
counts_written = row (at_world i0) (
    ("call 1 3 5 0 0 0 0 0 0 0", "done") ∷ ("checkpoint", "frozen 3") ∷ ("cut", "at 0 0") ∷
    ("send 1 3 5 0 0 0 0 0 0 0", "done") ∷ ("checkpoint", "frozen 2") ∷ ("cut", "at 0 0") ∷
    ("return 1 3 5 0 0 0 0 0 0 0", "done") ∷ ("checkpoint", "frozen 3") ∷ ("cut", "at 0 0") ∷
    ("call 1 3 5 0 0 0 0 0 0 0", "done") ∷
    ("return 3 31 0 0 0 0 0 0 0 0", "done") ∷ ("checkpoint", "frozen 4") ∷ ("cut", "at 0 0") ∷
    ("call 1 0 1 0 0 0 0 0 0 0", "done") ∷ ("checkpoint", "frozen 2") ∷ ("cut", "at 0 0") ∷
    ("send 1 0 1 0 0 0 0 0 0 0", "done") ∷ ("checkpoint", "frozen 0") ∷ ("cut", "at 0 0") ∷
    ("return 1 0 1 0 0 0 0 0 0 0", "done") ∷ ("checkpoint", "frozen 1") ∷ ("cut", "at 0 0") ∷
    ("send 1 4 4 0 5 0 0 0 0 0", "done") ∷ ("checkpoint", "frozen 1") ∷ ("cut", "at 0 0") ∷
    ("send 1 4 2 9 0 0 1 0 0 0", "done") ∷ ("checkpoint", "frozen 1") ∷ ("cut", "at 0 0") ∷
    ("send 1 1 4 0 5 0 0 0 0 0", "done") ∷
    ("send 1 1 2 9 0 0 1 0 0 0", "done") ∷ ("checkpoint", "frozen 2") ∷ ("cut", "at 0 0") ∷
    ("call 1 4 7 1 0 0 0 0 0 0", "done") ∷ ("checkpoint", "frozen 3") ∷ ("cut", "at 0 0") ∷
    ("send 1 4 7 2 0 0 0 0 0 0", "done") ∷ ("checkpoint", "frozen 0") ∷ ("cut", "at 0 0") ∷
    ("call 1 1 7 0 0 0 0 0 0 0", "done") ∷ ("checkpoint", "frozen 2") ∷ ("cut", "at 0 0") ∷
    ("load 1 0", "memory fault 1") ∷
    ("store 1 0 9", "memory fault 1") ∷ ("checkpoint", "frozen 0") ∷ ("cut", "at 0 0") ∷
    [])

-- a page is written, saved, and written again
abbrev pub saves_page : List (String × String) → Row
saves_page more = row (at_world i0) (
    ("call 1 2 1 0 0 0 0 0 0 0", "done") ∷
    ("send 1 28 2 0 42 0 0 0 0 0", "done") ∷ ("checkpoint", "frozen 3") ∷
    ("send 1 28 2 0 43 0 0 0 0 0", "done") ∷ ("stabilize 5", "left 0") ∷ ("commit", "committed 1") ∷
    ("migrate 9", "left 0") ∷
    more)

-- a page is saved without a checkpoint, and goes home before the next one
abbrev pub journals : Row
journals = saves_page (
    ("journal 16", "journaled 3") ∷
    ("cut", "at 3 4") ∷ ("show 16", "page 16 owner 0\nword 0 43\nend") ∷ ("journal 16", "migration pending") ∷
    ("migrate 1", "left 0") ∷ ("journal 16", "journaled 5") ∷
    ("cut", "at 5 5") ∷
    [])

-- a page that was rescinded and made again isn't journaled before it is saved
abbrev pub journals_saved : Row
journals_saved = saves_page (
    ("send 1 2 5 0 0 0 28 0 0 0", "done") ∷
    ("call 1 2 1 0 0 0 0 0 0 0", "done") ∷ ("journal 16", "not journaled 2") ∷ ("journal 17", "not journaled 1") ∷
    ("journal 24", "bad number") ∷ ("checkpoint", "frozen 3") ∷ ("journal 16", "checkpoint running") ∷
    ("stabilize 3", "left 0") ∷ ("commit", "committed 2") ∷ ("journal 24", "migration pending") ∷
    ("migrate 3", "left 0") ∷ ("journal 16", "journaled 4") ∷
    [])

-- a journaled page keeps its saved owner, and other writes aren't saved with it
abbrev pub journals_words : Row
journals_words = row (at_world i0) (
    ("call 1 2 4 10 0 0 0 0 0 0", "done") ∷
    ("send 1 1 2 5 0 0 28 0 0 0", "done") ∷
    ("call 1 5 1 0 0 0 0 0 0 0", "done") ∷ ("checkpoint", "frozen 4") ∷ ("stabilize 4", "left 0") ∷
    ("commit", "committed 1") ∷ ("migrate 4", "left 0") ∷
    ("send 1 28 2 0 42 0 0 0 0 0", "done") ∷
    ("send 1 5 7 0 0 0 0 0 0 0", "done") ∷ ("show 5", "free 5\nend") ∷
    ("show 16", "page 16 owner 0\nword 0 42\nend") ∷ ("journal 16", "journaled 3") ∷
    ("cut", "at 3 5") ∷ ("show 5", "bank 5 owner 0 limit 10 used 1\nend") ∷
    ("show 16", "page 16 owner 5\nword 0 42\nend") ∷
    [])

-- the rows above
unfoldable pub saving : List Row
saving = saves ∷ saves_stores ∷ forgets ∷ counts_written ∷ journals ∷ journals_saved ∷ journals_words ∷ []
