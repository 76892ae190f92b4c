-- What the commands that only read an image write about it.
use Rattle.queries.specs.Names.{Written, Wrote, ℕ, List, [], map, Some, Result, Ok, Err, Members, parse_document, Frame}
use Rattle.queries.specs.Names.{Geometry, IsSoundFrames, world_at, World, Disk, Encodes, SavedState, Plan}
use Rattle.queries.specs.Names.{version_number, OnlyReads, numbers_of, RefusesToOpen, Description, IsDescription, Sizes}
use Rattle.queries.specs.Names.{Describes, IsBrief, IsGrown, IsUnsuited, grown_ranges, grown_geometry, description_text}
use Rattle.queries.specs.Names.{WroteFront, Fault}
use Rattle.std.specs.Prelude.{◌≡◌, ◌≢◌, ◌↔◌, ◌<◌, ◌∷◌}
use Rattle.jobs.specs.declared.fault.Fault.TheVariants as fault

-- a device was opened without a failure and only read, and this is its saved state
pub record ReadsSaved {D : Type 0} (disk : D → Disk) (device back : D) (state : SavedState) : Type 0 where
  pub encodes : Encodes (disk device).seen (disk device).sectors state
  pub sound : IsSoundFrames state.plan.geometry state.header.age state.frames
  pub failures : (disk back).failures ≡ (disk device).failures
  pub only_reads : OnlyReads (disk device) (disk back)

-- a device was only read, and x has the relation `Is` to its saved state
abbrev pub IsReadFrom : {D T : Type 0} → (D → Disk) → (SavedState → T → Type 0) → D → D → T → Type 0
IsReadFrom disk Is device back x = (s : SavedState) × ReadsSaved disk device back s × Is s x

-- The outcome of a command that reads an image: `Tells` holds of it and of the saved state; or the device wasn't
-- opened or memory ran out, and nothing was written.
abbrev pub TellsImage : {D : Type 0} → (D → Disk) → D → D → Written → Written →
    (SavedState → Result (Unit {0}) Fault → Type 0) → Result (Unit {0}) Fault → Type 0
TellsImage disk device back output output_left Tells (Err (fault.Open why)) = RefusesToOpen disk device back why ×
    (output_left ≡ output)
TellsImage disk device back output output_left Tells outcome = (s : SavedState) × ReadsSaved disk device back s ×
    Tells s outcome

-- The description has the age, and each object with the content in its frame. It has nothing else. It omits
-- defaults, its numbers rise, and its home ranges and version are the plan's.
pub record IsDescriptionOf (p : Plan) (age : ℕ) (frames : List Frame) (description : Description) : Type 0 where
  pub describes : Describes p.geometry (world_at age frames) description
  pub brief : IsBrief description
  pub ranges : description.ranges.items ≡ map numbers_of p.ranges
  pub layout : description.layout ≡ version_number p.version

-- The description has the age, and each object that these frames stand for, with its number in an image of these
-- sizes. It has nothing else. It omits defaults, its numbers rise, its home ranges suit the sizes, and its version
-- is the plan's.
pub record IsDescribedIn (p : Plan) (g : Geometry) (age : ℕ) (frames : List Frame) (description : Description) : Type 0
  where
    pub world : World
    pub grown : IsGrown p.geometry g (world_at age frames) world
    pub describes : Describes g world description
    pub brief : IsBrief description
    pub ranges : description.ranges.items ≡ grown_ranges p.geometry g (map numbers_of p.ranges)
    pub layout : description.layout ≡ version_number p.version

-- The text is the one text of a description as in `IsDescribedIn`, and is read as this description.
pub record IsTextIn (p : Plan) (g : Geometry) (age : ℕ) (frames : List Frame) (text : List ℕ) : Type 0 where
  pub table : Members
  pub read : parse_document text ≡ Some table
  pub description : Description
  pub said : IsDescription table description
  pub spelled : text ≡ description_text description
  pub whole : IsDescribedIn p g age frames description

-- The text is the one text of a description of these frames at this age (`IsDescriptionOf`), and is read as this
-- description.
pub record IsTextOf (p : Plan) (age : ℕ) (frames : List Frame) (text : List ℕ) : Type 0 where
  pub table : Members
  pub read : parse_document text ≡ Some table
  pub description : Description
  pub said : IsDescription table description
  pub spelled : text ≡ description_text description
  pub describes : Describes p.geometry (world_at age frames) description
  pub brief : IsBrief description
  pub ranges : description.ranges.items ≡ map numbers_of p.ranges
  pub layout : description.layout ≡ version_number p.version

-- the text that describes the whole saved state, for an image of these sizes, was written
abbrev pub TellsWhole : Sizes → SavedState → (List ℕ → Type 0) → Type 0
TellsWhole sizes s Reported = (text : List ℕ)
    × IsTextIn s.plan (grown_geometry s.plan.geometry sizes) s.header.age s.frames text × Reported text

-- the text that describes the saved state for an image of these sizes was written; or it couldn't be written whole;
-- or an image of these sizes can't have the objects; or memory ran out
abbrev pub TellsGrownState : Sizes → SavedState → Written → Written → Result (Unit {0}) Fault → Type 0
TellsGrownState sizes s output output_left (Ok a) = TellsWhole sizes s (Wrote output output_left)
TellsGrownState sizes s output output_left (Err fault.CannotWriteOutput) = TellsWhole sizes s
    (WroteFront output output_left)
TellsGrownState sizes s output output_left (Err (fault.Sizes why)) =
    IsUnsuited s.plan.geometry (grown_geometry s.plan.geometry sizes) (world_at s.header.age s.frames) why
    × (output_left ≡ output)
TellsGrownState sizes s output output_left (Err fault.NoMemory) = output_left ≡ output
TellsGrownState sizes s output output_left (Err _) = ⊥

-- what `describe` does: `TellsGrownState` for the device's saved state; or the device wasn't opened, or memory ran
-- out
abbrev pub DescribesImage : {D : Type 0} → (D → Disk) → Sizes → D → D → Written → Written →
    Result (Unit {0}) Fault → Type 0
DescribesImage disk sizes device back output output_left outcome = TellsImage disk device back output output_left
    (λ s o. TellsGrownState sizes s output output_left o) outcome
