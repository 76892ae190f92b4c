-- Loads and stores over a store of present frames.
use Rattle.std.specs.Prelude.{◌≡◌, ◌↔◌, ℕ, ◌%◌, ◌<◌, ◌≤◌, Bool, List, [], ◌∷◌, Result, Ok, Err, IfErr, OnErr, OnOk}
use Rattle.std.specs.Prelude.{IsErrOf}
use Rattle.model.specs.declared.access.Access.{Access}
use Rattle.model.specs.declared.answer.MemoryFault.{MemoryFault}
use Rattle.model.specs.declared.object.Object.{Object}
use Rattle.model.specs.Keepable.{IsSoundFrames}
use Rattle.model.specs.Machine.{touching, touched_count}
use Rattle.model.specs.Step.{reached, writable}
use Rattle.model.specs.World.{word_at, with_word}
use Rattle.model.specs.declared.answer.Refusal.{Refusal}
use Rattle.model.specs.declared.answer.Refusal.TheVariants as refusal
use Rattle.capability.specs.Parts.{AreSameUnlessFailed, IsUnprepared, Parts, frames_of}

-- a load returns the word at the address, or the memory fault of the walk
abbrev pub IsLoaded : List Object → ℕ → ℕ → Result ℕ MemoryFault → Type 0
IsLoaded os p address (Ok word) =
    (found : ℕ × Access) × (reached os p address ≡ Ok found) × (word ≡ word_at os found.0 (address % 512))
IsLoaded os p address (Err why) = reached os p address ≡ Err why

-- a store writes the word, marks the page as touched, and at most as many numbers are touched as a log half has slots;
-- or it returns the memory fault of the walk
abbrev pub IsStored : ℕ → List Object → List Bool → ℕ → ℕ → ℕ → List Object → List Bool →
    Result (Unit {0}) MemoryFault → Type 0
IsStored log before touched p address word after touched_after (Ok done) =
    (page : ℕ) × (writable (reached before p address) ≡ Ok page) × (after ≡ with_word before page (address % 512) word)
    × (touched_after ≡ touching touched (page ∷ [])) × (touched_count touched_after ≤ log)
IsStored log before touched p address word after touched_after (Err why) =
    (writable (reached before p address) ≡ Err why) × (after ≡ before) × (touched_after ≡ touched)

-- a store would touch more numbers than a log half has slots
abbrev pub OverfillsStore : ℕ → List Object → List Bool → ℕ → ℕ → Type 0
OverfillsStore log os touched p address =
    (page : ℕ) × (writable (reached os p address) ≡ Ok page) × (log < touched_count (touching touched (page ∷ [])))

-- frames that are sound at an age stay sound at that age
abbrev pub KeepsSound : Parts → Parts → Type 0
KeepsSound old new = (age : ℕ) → IsSoundFrames old.geometry age (frames_of old) →
    IsSoundFrames old.geometry age (frames_of new)

-- A store changes the content of at most one page; if the log is full it changes nothing. After a failure of the
-- device the parts are unknown. The parameters are the ghost members of a store of present frames.
pub record WritesWord {S T : Type 0} (parts : S → Parts) (Continues : S → S → Type 0) (old new : S)
    (result : Result T Refusal) : Type 0 where
  pub sound : OnOk result (KeepsSound (parts old) (parts new))
  pub headers : OnOk result ((parts new).headers ≡ (parts old).headers)
  pub geometry : OnOk result ((parts new).geometry ≡ (parts old).geometry)
  pub same : OnErr result (AreSameUnlessFailed (parts old) (parts new))
  pub refusals : IfErr result IsUnprepared
  pub cause : IsErrOf result refusal.Fault ↔ ((parts old).failures < (parts new).failures)
  pub later : (parts old).failures ≤ (parts new).failures
  pub continues : Continues old new
