-- The calls of a file of the operating system, and their effect on its sectors.
use Rattle.devices.specs.Names.{ℕ, List, [], length, Option, None, Some, ⊤, concat, flat_map, sum_by, sectors_of}
use Rattle.std.specs.Prelude.{◌≡◌, ◌+◌, ◌*◌, ◌∷◌, ◌++◌}
use Rattle.devices.specs.declared.record.Outcome.TheVariants.{Keep}
use Rattle.devices.specs.Past.{Event, synced, cut, writes_of}

-- a successful call: a write took these bytes at this byte, or a sync made the written bytes durable
pub data Call : Type 0 where
  took : ℕ → List ℕ → Call
  kept : Call

-- the calls known now are those known before, and `more`; unknown calls stay unknown
abbrev pub Adds : {X : Type 0} → Option (List X) → Option (List X) → List X → Type 0
Adds None now more = now ≡ None
Adds (Some calls) None more = ⊥
Adds (Some calls) (Some now) more = now ≡ calls ++ more

-- one operation on a file of sectors
pub data Deed : Type 0 where
  writes : ℕ → List (List ℕ) → Deed  -- these pieces are written from a sector on
  fails_write : ℕ → List (List ℕ) → List ℕ → Deed  -- these pieces are written, and a write of the rest fails
  syncs : Deed  -- the file is synced
  fails_sync : Deed  -- a sync fails
  cuts : Deed  -- the power is cut

-- the calls that take these pieces, one after the other, from a byte on
abbrev pub taken : ℕ → List (List ℕ) → List Call
taken byte [] = []
taken byte (piece ∷ pieces) = took byte piece ∷ taken (byte + length piece) pieces

-- the successful calls that an operation makes
abbrev pub calls_of : Deed → List Call
calls_of (writes at pieces) = taken (512 * at) pieces
calls_of (fails_write at pieces rest) = taken (512 * at) pieces
calls_of syncs = kept ∷ []
calls_of fails_sync = []
calls_of cuts = []

-- the events of an operation: a write that fails may have written any of its sectors
abbrev pub events_by : Deed → List Event
events_by (writes at pieces) = writes_of at (sectors_of (concat pieces)) (concat pieces)
events_by (fails_write at pieces rest) = writes_of at (sectors_of (concat pieces ++ rest)) (concat pieces ++ rest)
events_by syncs = synced ∷ []
events_by fails_sync = []
events_by cuts = cut Keep ∷ []

-- how many failures an operation counts as
abbrev pub failures_by : Deed → ℕ
failures_by (writes at pieces) = 0
failures_by (fails_write at pieces rest) = 1
failures_by syncs = 0
failures_by fails_sync = 1
failures_by cuts = 0

-- all of the bytes were written from a byte on, one piece after another
abbrev pub Takes : ℕ → Option (List Call) → Option (List Call) → List ℕ → Type 0
Takes byte old new bytes = (pieces : List (List ℕ)) × (concat pieces ≡ bytes) × Adds old new (taken byte pieces)

-- a prefix of the bytes was written from a byte on, one piece after another
abbrev pub TakesFront : ℕ → Option (List Call) → Option (List Call) → List ℕ → Type 0
TakesFront byte old new bytes =
    (pieces : List (List ℕ)) × (rest : List ℕ) × (concat pieces ++ rest ≡ bytes) × Adds old new (taken byte pieces)

-- the known calls are those of some list of operations, which has these events and this number of failures
abbrev pub Tells : List Event → ℕ → Option (List Call) → Type 0
Tells events failures None = ⊤
Tells events failures (Some calls) =
    (deeds : List Deed) × (events ≡ flat_map events_by deeds) × (failures ≡ sum_by failures_by deeds)
    × (calls ≡ flat_map calls_of deeds)
