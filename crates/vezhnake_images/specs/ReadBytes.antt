-- What the library answers about the bytes of an image, or the text of a description.
use Rattle.std.specs.Prelude.{◌≡◌, ℕ, Bool, List, Option, IsUtf8}
use Rattle.checkpoint.specs.Saved.{kept_of}
use Rattle.image_explainer.specs.Explained.{IsExplainedBy}
use Rattle.image_explainer.specs.declared.fault.ImageFault.{ImageFault}
use Rattle.layout.specs.Denoted.{SavedState}
use Rattle.queries.specs.Diagnosed.{explanation_text}
use Rattle.queries.specs.Explained.{TellsOf}
use Rattle.queries.specs.Images.{IsTextOf}
use Rattle.recovery.specs.Denotes.{saved_of}
use Rattle.vezhnake.specs.Sessions.{CopiesOut}
use Rattle.vezhnake_images.specs.ImageBytes.{ImageDevice, IsOver, RefusesBytes, SavesState, image_disk}
use Rattle.vezhnake_images.specs.ImageStatuses.{Answered}
use Rattle.vezhnake_images.specs.RawInfos.{info_of}
use Rattle.vezhnake_images.specs.declared.image_status.ImageStatus.{ImageStatus}
use Rattle.vezhnake_images.specs.declared.image_status.ImageStatus.TheVariants as status
use Rattle.vezhnake_images.specs.declared.raw_info.RawInfo.{RawInfo}

-- these are the numbers of the image in these bytes
abbrev pub IsInfoOf : List ℕ → RawInfo → Type 0
IsInfoOf bytes info = (s : SavedState) × SavesState bytes s × (info ≡ info_of s.plan (saved_of (kept_of s)))

-- the numbers of the image were written; or the status says why it is refused
abbrev pub ChecksBytes : List ℕ → RawInfo → RawInfo → ImageStatus → Type 0
ChecksBytes bytes before after status.Done = IsInfoOf bytes after
ChecksBytes bytes before after refused = RefusesBytes bytes refused × (after ≡ before)

-- the text describes each object that the image saves, and nothing else
abbrev pub IsTextFor : List ℕ → List ℕ → Type 0
IsTextFor bytes text = (s : SavedState) × SavesState bytes s × IsTextOf s.plan s.header.age s.frames text

-- the text about the image was copied out; or it is longer than the buffer; or the status says why there is none
abbrev pub DescribesBytes : List ℕ → List ℕ → List ℕ → ℕ → ℕ → ImageStatus → Type 0
DescribesBytes bytes old new size_old size =
    Answered (λ fits. (text : List ℕ) × IsTextFor bytes text × CopiesOut text old new size fits)
    (λ refused. RefusesBytes bytes refused × (new ≡ old) × (size ≡ size_old))

-- what was found about the image: a run opens it, or this fault has the least reason that applies
abbrev pub IsFound : List ℕ → Option ImageFault → Type 0
IsFound bytes found = (d : ImageDevice) × IsOver bytes d × IsExplainedBy (image_disk d).sectors (image_disk d).seen found

-- the line about the image was copied out; or it is longer than the buffer; or the status says why there is none
abbrev pub ExplainsBytes : List ℕ → List ℕ → List ℕ → ℕ → ℕ → ImageStatus → Type 0
ExplainsBytes bytes old new size_old size =
    Answered (λ fits. (found : Option ImageFault) × IsFound bytes found × CopiesOut (explanation_text found) old new size fits)
    (λ refused. RefusesBytes bytes refused × (new ≡ old) × (size ≡ size_old))

-- the line about a text: that it is accepted, or where it is wrong
abbrev pub IsLineOf : List ℕ → List ℕ → Type 0
IsLineOf text line = (is_accepted : Bool) × TellsOf text line is_accepted

-- why there is no line about a text: it isn't UTF-8, or memory ran out
abbrev pub RefusesLine : List ℕ → ImageStatus → Type 0
RefusesLine text status.NotToml = IsUtf8 text → ⊥
RefusesLine text status.NoMemory = Unit {0}
RefusesLine text _ = ⊥

-- the line about the text was copied out; or it is longer than the buffer; or the status says why there is none
abbrev pub ExplainsText : List ℕ → List ℕ → List ℕ → ℕ → ℕ → ImageStatus → Type 0
ExplainsText text old new size_old size =
    Answered (λ fits. (line : List ℕ) × IsLineOf text line × CopiesOut line old new size fits)
    (λ refused. RefusesLine text refused × (new ≡ old) × (size ≡ size_old))
