-- The invariant of a device in memory: its bytes agree with its record.
use Rattle.devices.specs.Names.{ℕ, true, false, List, length, drop, All, Agrees, image_of}
use Rattle.std.specs.Prelude.{◌≡◌, ◌<◌, ◌≤◌, ◌*◌}
use Rattle.devices.specs.declared.record.RecordEntry.{RecordEntry}
use Rattle.devices.specs.Past.{State, at_first, replay}
use Rattle.devices.specs.Record.{events_of, names}

-- the sectors after all events of the record
abbrev pub now_of : List ℕ → List RecordEntry → State
now_of first entries = replay (at_first (image_of first)) (events_of entries)

-- sectors with these present and synced bytes; the entries `unsynced` came after the last sync
abbrev pub state_with : List ℕ → List ℕ → List RecordEntry → State
state_with present synced unsynced =
    record { present = image_of present; durable = image_of synced; unsynced = names unsynced }

-- The invariant: replaying the record gives these bytes. The entries from `settled` on aren't durable yet.
pub record IsSoundMirror (sectors : ℕ) (first present synced : List ℕ) (entries : List RecordEntry) (settled : ℕ) : Type
    0 where
  pub few : sectors ≤ 131072
  pub present_size : length present ≡ 512 * sectors
  pub synced_size : length synced ≡ 512 * sectors
  pub present_fits : All (λ b. b < 256) present
  pub synced_fits : All (λ b. b < 256) synced
  pub present_is : Agrees (image_of present) (now_of first entries).present
  pub durable_is : Agrees (image_of synced) (now_of first entries).durable
  pub settled_within : settled ≤ length entries
  pub unsynced_are : (i : ℕ) → (now_of first entries).unsynced i ≡ names (drop settled entries) i
  pub same_elsewhere : (i : ℕ) → names (drop settled entries) i ≡ false → image_of present i ≡ image_of synced i
  pub inside : (i : ℕ) → names (drop settled entries) i ≡ true → i < sectors
