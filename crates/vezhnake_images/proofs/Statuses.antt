-- What a call answers, by its status.
use Rattle.vezhnake_images.proofs.Names.{ℕ, Bool, true, false, List, Option, Some, refl, subst, ImageFault, explanation_text, Members, CopiesOut, BuildsBytes}
use Rattle.vezhnake_images.proofs.Names.{PutsImage, RefusesTable, RefusesText, RefusesBytes, Answered, ChecksBytes, DescribesBytes, ExplainsBytes, IsFound}
use Rattle.vezhnake_images.proofs.Names.{IsTextFor, ImageStatus, RawInfo}
use Rattle.std.proofs.Common.{◌≡◌}
unfoldable use Rattle.toml.specs.Parse.{parse_document}
use Rattle.vezhnake_images.specs.declared.image_status.ImageStatus.TheVariants as status

-- a status with a reason to refuse is neither `Done` nor `SmallBuffer`
refused : (Fits : Bool → Type 0) (Refuses : ImageStatus → Type 0) → (Refuses status.Done → ⊥) → (Refuses status.SmallBuffer → ⊥) →
    (s : ImageStatus) → Refuses s → Answered Fits Refuses s
refused Fits Refuses done small status.Done is = absurd (done is)
refused Fits Refuses done small status.SmallBuffer is = absurd (small is)
refused Fits Refuses done small (status.Bad reason) is = is
refused Fits Refuses done small status.NoMemory is = is
refused Fits Refuses done small status.BadSize is = is
refused Fits Refuses done small status.Failed is = is
refused Fits Refuses done small status.NotToml is = is
refused Fits Refuses done small (status.BadDescription why) is = is

pub undescribed : (bytes old : List ℕ) (size : ℕ) (s : ImageStatus) → RefusesBytes bytes s → DescribesBytes bytes old old size size s
undescribed bytes old size s is = refused (λ fits. (text : List ℕ) × IsTextFor bytes text × CopiesOut text old old size fits)
    (λ r. RefusesBytes bytes r × (old ≡ old) × (size ≡ size)) (λ both. both.0) (λ both. both.0) s (is, refl, refl)

pub unexplained : (bytes old : List ℕ) (size : ℕ) (s : ImageStatus) → RefusesBytes bytes s → ExplainsBytes bytes old old size size s
unexplained bytes old size s is = refused
    (λ fits. (found : Option ImageFault) × IsFound bytes found × CopiesOut (explanation_text found) old old size fits)
    (λ r. RefusesBytes bytes r × (old ≡ old) × (size ≡ size)) (λ both. both.0) (λ both. both.0) s (is, refl, refl)

pub unbuilt_text : (text old : List ℕ) (size : ℕ) (s : ImageStatus) → RefusesText text s → BuildsBytes text old old size size s
unbuilt_text text old size s is = refused (PutsImage text old old size) (λ r. RefusesText text r × (old ≡ old) × (size ≡ size))
    (λ both. both.0.2) (λ both. both.0.2) s (is, refl, refl)

-- if a text's table is refused, the text is refused with the same status
pub refused_table : (text : List ℕ) (table : Members) (s : ImageStatus) → parse_document text ≡ Some table → RefusesTable table s →
    RefusesText text s
refused_table text table status.Done read is = absurd is
refused_table text table status.SmallBuffer read is = absurd is
refused_table text table (status.Bad reason) read is = absurd is
refused_table text table status.NoMemory read is = tt
refused_table text table status.BadSize read is = absurd is
refused_table text table status.Failed read is = absurd is
refused_table text table status.NotToml read is = absurd is
refused_table text table (status.BadDescription why) read is = (table, read, is)

-- if the line about what was found is copied out, the image is explained
pub explained_by : (bytes line old new : List ℕ) (size_old size : ℕ) (found : Option ImageFault) (s : ImageStatus) → IsFound bytes found
    → line ≡ explanation_text found → Answered (λ fits. CopiesOut line old new size fits) (λ r. ⊥) s →
    ExplainsBytes bytes old new size_old size s
explained_by bytes line old new size_old size found status.Done is same copies =
    (found, is, subst (λ (xs : List ℕ). CopiesOut xs old new size true) same copies)
explained_by bytes line old new size_old size found status.SmallBuffer is same copies =
    (found, is, subst (λ (xs : List ℕ). CopiesOut xs old new size false) same copies)
explained_by bytes line old new size_old size found (status.Bad reason) is same copies = absurd copies
explained_by bytes line old new size_old size found status.NoMemory is same copies = absurd copies
explained_by bytes line old new size_old size found status.BadSize is same copies = absurd copies
explained_by bytes line old new size_old size found status.Failed is same copies = absurd copies
explained_by bytes line old new size_old size found status.NotToml is same copies = absurd copies
explained_by bytes line old new size_old size found (status.BadDescription why) is same copies = absurd copies

pub unchecked : (bytes : List ℕ) (info : RawInfo) (s : ImageStatus) → RefusesBytes bytes s → ChecksBytes bytes info info s
unchecked bytes info status.Done is = absurd is
unchecked bytes info status.SmallBuffer is = absurd is
unchecked bytes info (status.Bad reason) is = (is, refl)
unchecked bytes info status.NoMemory is = (is, refl)
unchecked bytes info status.BadSize is = (is, refl)
unchecked bytes info status.Failed is = absurd is
unchecked bytes info status.NotToml is = absurd is
unchecked bytes info (status.BadDescription why) is = absurd is
