-- The invariant of a file and its copy.
use Rattle.devices.specs.Names.{ℕ, List, length, All, IsWhole, Agrees, image_of}
use Rattle.std.specs.Prelude.{◌≡◌, ◌<◌, ◌≤◌, ◌*◌}
use Rattle.devices.specs.Past.{Event, State, at_first, replay}

-- the state of the sectors after all events of the file
abbrev pub now_of : List ℕ → List Event → State
now_of first events = replay (at_first (image_of first)) events

-- the invariant: the copy has the file's sectors
pub record IsCopy (sectors : ℕ) (copy first : List ℕ) (events : List Event) : Type 0 where
  pub few : sectors ≤ 131072
  pub size : length copy ≡ 512 * sectors
  pub fits : All (λ b. b < 256) copy
  pub present_is : Agrees (image_of copy) (now_of first events).present
  pub durable_whole : IsWhole sectors (now_of first events).durable
