-- What each call of a store answers, and why it refuses. `left` is the number of frozen frames still to write.
use Rattle.checkpoint.specs.Names.{ℕ, Bool, true, false, Option, Some, None, Result, Ok, Err, Disk, Refusal}
use Rattle.std.specs.Prelude.{◌≡◌, ◌≢◌, ◌+◌, ◌<◌}
use Rattle.model.specs.declared.answer.Refusal.TheVariants as refusal
use Rattle.model.specs.declared.answer.Unjournaled.TheVariants as unjournaled
use Rattle.checkpoint.specs.Saved.{SavedFrames}

-- the call was refused for another reason than a failure of the device
abbrev pub IsRefused : {T : Type 0} → Result T Refusal → Type 0
IsRefused (Ok done) = ⊥
IsRefused (Err refusal.Fault) = ⊥
IsRefused (Err _) = Unit {0}

-- the answer to writing a frozen frame: refused if no checkpoint is frozen
abbrev pub IsPutAnswer : {T : Type 0} → Disk → Disk → Option ℕ → Result T Refusal → Type 0
IsPutAnswer old new left (Ok done) = (new.failures ≡ old.failures) × (left ≢ None)
IsPutAnswer old new left (Err refusal.NoCheckpoint) = (new.failures ≡ old.failures) × (left ≡ None)
IsPutAnswer old new left (Err refusal.Fault) = (old.failures < new.failures) × (left ≢ None)
IsPutAnswer old new left (Err _) = ⊥

-- the answer to `checkpoint`: refused if one is frozen, or if a saved frame isn't home (`entries` isn't 0)
abbrev pub IsFreezeAnswer : {T : Type 0} → Option ℕ → ℕ → Result T Refusal → Type 0
IsFreezeAnswer left entries (Ok done) = (left ≡ None) × (entries ≡ 0)
IsFreezeAnswer left entries (Err refusal.CheckpointRunning) = left ≢ None
IsFreezeAnswer left entries (Err refusal.MigrationPending) = (left ≡ None) × (entries ≢ 0)
IsFreezeAnswer left entries (Err _) = ⊥

-- the answer to `commit`, which raises the generation by 1: refused if no checkpoint is frozen, or if frozen frames
-- are still to write
abbrev pub IsCommitAnswer : Disk → Disk → Option ℕ → ℕ → Result ℕ Refusal → Type 0
IsCommitAnswer old new left saved (Ok generation) = (new.failures ≡ old.failures) × (left ≡ Some 0) ×
    (generation ≡ saved + 1)
IsCommitAnswer old new left saved (Err refusal.NoCheckpoint) = (new.failures ≡ old.failures) × (left ≡ None)
IsCommitAnswer old new left saved (Err (refusal.NotStable count)) = (new.failures ≡ old.failures) × (left ≡ Some count)
    × (0 < count)
IsCommitAnswer old new left saved (Err refusal.Fault) = (old.failures < new.failures) × (left ≡ Some 0)
IsCommitAnswer old new left saved (Err _) = ⊥

-- The answer to `journal`, which raises the generation by 2. It is refused if a checkpoint is frozen, a saved frame
-- isn't home, the number isn't a page's, or no page is saved at the number, or the saved one was freed since.
abbrev pub IsJournalAnswer : Disk → Disk → Option ℕ → SavedFrames → (is_known is_page is_saved : Bool) →
    Result ℕ Refusal → Type 0
IsJournalAnswer old new left s is_known is_page is_saved (Ok generation) =
    (new.failures ≡ old.failures) × (left ≡ None) × (s.entries ≡ 0) × (is_page ≡ true) × (is_saved ≡ true) ×
    (generation ≡ s.generation + 2)
IsJournalAnswer old new left s is_known is_page is_saved (Err refusal.CheckpointRunning) = (new.failures ≡ old.failures)
    × (left ≢ None)
IsJournalAnswer old new left s is_known is_page is_saved (Err refusal.MigrationPending) = (new.failures ≡ old.failures)
    × (left ≡ None) × (s.entries ≢ 0)
IsJournalAnswer old new left s is_known is_page is_saved (Err refusal.BadNumber) =
    (new.failures ≡ old.failures) × (left ≡ None) × (s.entries ≡ 0) × (is_known ≡ false)
IsJournalAnswer old new left s is_known is_page is_saved (Err (refusal.NotJournaled unjournaled.NotPage)) =
    (new.failures ≡ old.failures) × (left ≡ None) × (s.entries ≡ 0) × (is_known ≡ true) × (is_page ≡ false)
IsJournalAnswer old new left s is_known is_page is_saved (Err (refusal.NotJournaled unjournaled.Renewed)) =
    (new.failures ≡ old.failures) × (left ≡ None) × (s.entries ≡ 0) × (is_page ≡ true) × (is_saved ≡ false)
IsJournalAnswer old new left s is_known is_page is_saved (Err refusal.Fault) = (old.failures < new.failures) ×
    (left ≡ None) × (s.entries ≡ 0) × (is_page ≡ true)
IsJournalAnswer old new left s is_known is_page is_saved (Err _) = ⊥

-- the answer of the checks before a journal: `Ok`, or why `journal` refuses
abbrev pub IsJournalCheck : {T : Type 0} → Disk → Disk → Option ℕ → SavedFrames → (is_known is_page is_saved : Bool) →
    Result T Refusal → Type 0
IsJournalCheck old new left s is_known is_page is_saved (Ok done) = (new.failures ≡ old.failures) × (left ≡ None) ×
    (s.entries ≡ 0) × (is_page ≡ true) × (is_saved ≡ true)
IsJournalCheck old new left s is_known is_page is_saved (Err why) = IsJournalAnswer old new left s is_known is_page
    is_saved (Err why)

-- the journal is refused before any device call
abbrev pub IsTurnedAway : Result ℕ Refusal → Type 0
IsTurnedAway (Err refusal.CheckpointRunning) = Unit {0}
IsTurnedAway (Err refusal.MigrationPending) = Unit {0}
IsTurnedAway (Err refusal.BadNumber) = Unit {0}
IsTurnedAway (Err (refusal.NotJournaled unjournaled.NotPage)) = Unit {0}
IsTurnedAway _ = ⊥
