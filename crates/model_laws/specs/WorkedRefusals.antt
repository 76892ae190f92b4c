-- Worked rows: refusals, the end of the age, and a full log.
use Rattle.model_laws.specs.Names.{List, [], f0, i0}
use Rattle.std.specs.Prelude.{◌^◌, ◌-◌, ◌∷◌}
use Rattle.model_laws.specs.Worked.{Row, aged, at_world, row, s0, with_all_nodes_written}

-- loads and stores without an address space, or by a number without a running process
abbrev pub refuses_references : Row
refuses_references = row (at_world i0) (
    ("load 1 0", "memory fault 1") ∷ ("load 3 0", "not running") ∷ ("load 5 0", "no process") ∷
    ("store 1 0 1", "memory fault 1") ∷
    ("store 4 0 1", "no process") ∷
    [])

-- numbers without an object, and stages of a checkpoint when nothing is frozen
abbrev pub refuses_numbers : Row
refuses_numbers = row (at_world i0) (
    ("show 24", "bad number") ∷ ("evict 24", "bad number") ∷ ("stabilize 1", "no checkpoint") ∷
    ("commit", "no checkpoint") ∷ ("migrate 3", "left 0") ∷ ("evict 23", "done") ∷
    [])

-- the first refusal that applies is given
abbrev pub refuses_in_order : Row
refuses_in_order = row (at_world (aged (2 ^ 62 - 1))) (
    ("send 1 3 5 0 0 0 0 0 0 0", "done") ∷
    ("send 1 3 5 0 0 0 0 0 0 0", "worn") ∷
    ("call 5 3 5 0 0 0 0 0 0 0", "no process") ∷ ("checkpoint", "worn") ∷
    ("cut", "at 0 4611686018427387903") ∷ ("checkpoint", "frozen 0") ∷
    ("call 1 3 5 0 0 0 0 0 0 0", "worn") ∷
    ("call 3 3 5 0 0 0 0 0 0 0", "not running") ∷ ("checkpoint", "worn") ∷
    [])

-- at age 2^62 invocations, checkpoints and journals are refused
abbrev pub wears : Row
wears = row (at_world (aged (2 ^ 62))) (
    ("call 1 2 1 0 0 0 0 0 0 0", "worn") ∷ ("checkpoint", "worn") ∷ ("journal 24", "worn") ∷
    ("show 5", "free 5\nend") ∷
    ("restart", "at 0 4611686018427387904") ∷
    [])

-- the step that reaches age 2^62 is carried out, the next is refused
abbrev pub ages_once_more : Row
ages_once_more = row (at_world (aged (2 ^ 62 - 1))) (
    ("call 1 1 6 0 0 0 0 0 0 0", "done") ∷
    ("call 1 1 6 0 0 0 0 0 0 0", "worn") ∷ ("checkpoint", "worn") ∷
    [])

-- with all nodes written, no page can be written before a checkpoint
abbrev pub fills_log : Row
fills_log = row (with_all_nodes_written f0) (
    ("call 1 5 5 2 77 0 0 0 0 0", "done") ∷
    ("call 1 6 2 0 1 0 0 0 0 0", "log full") ∷
    ("call 1 6 2 512 1 0 0 0 0 0", "done") ∷ ("checkpoint", "frozen 16") ∷
    ("call 1 6 2 0 1 0 0 0 0 0", "done") ∷
    [])

-- a memory fault precedes `log full`
abbrev pub fills_log_by_store : Row
fills_log_by_store = row (with_all_nodes_written s0) (
    ("store 1 0 1", "memory fault 1") ∷
    ("send 1 1 9 0 0 0 13 0 0 0", "done") ∷
    ("store 1 512 1", "memory fault 2") ∷
    ("store 1 0 1", "log full") ∷ ("load 1 0", "value 0") ∷
    [])

-- the rows above
unfoldable pub refusals : List Row
refusals =
    refuses_references ∷ refuses_numbers ∷ refuses_in_order
    ∷ wears ∷ ages_once_more ∷ fills_log ∷ fills_log_by_store ∷ []
