-- The state of the machine: its present, frozen and saved worlds.
use Rattle.model.specs.Names.{ℕ, Bool, true, false, Option, None, List, [], length, map, replicate, slice_index_or}
use Rattle.model.specs.Names.{slice_set, count_by, range_with_len}
use Rattle.std.specs.Prelude.{◌+◌, ◌||◌, ◌∷◌}
use Rattle.model.specs.declared.geometry.Geometry.{Geometry}
use Rattle.model.specs.declared.object.Object.{Object}
use Rattle.model.specs.Revoke.{is_given_up}
use Rattle.model.specs.World.{World}

-- what a committed checkpoint saves; `entries` is 0 once all saved objects are home
pub record Saved : Type 0 where
  pub world : World
  pub generation : ℕ
  pub entries : ℕ

-- a checkpoint that isn't committed: how many objects it writes, and how many of these are still to write
pub record Frozen : Type 0 where
  pub world : World
  pub size : ℕ
  pub left : ℕ

-- a machine that is up. `touched` says of each number whether it was written since the last checkpoint or restart, and
-- `renewed` whether its object was freed since; `to_move` counts the saved objects that aren't home; a restart sets it
-- to the number of entries
pub record Running : Type 0 where
  pub now : World
  pub touched : List Bool
  pub renewed : List Bool
  pub frozen : Option Frozen
  pub saved : Saved
  pub to_move : ℕ

-- a machine is up, or it is down and may reopen at any of these saved states
pub data Machine : Type 0 where
  Up : Running → Machine
  Down : List Saved → Machine

-- the saved states at which a machine may reopen
abbrev pub candidates : Machine → List Saved
candidates (Up s) = s.saved ∷ []
candidates (Down saved) = saved

-- sets of touched numbers: the empty set, a set with written numbers added, and the size of a set
unfoldable pub untouched : Geometry → List Bool
untouched g = replicate (g.nodes + g.pages) false

abbrev pub touching : List Bool → List ℕ → List Bool
touching touched [] = touched
touching touched (n ∷ ns) = touching (slice_set touched n true) ns

abbrev pub touched_count : List Bool → ℕ
touched_count touched = count_by (λ b. b) touched

-- the renewed numbers, and those whose objects were rescinded between os and us
unfoldable pub renewing : List Bool → List Object → List Object → List Bool
renewing renewed os us = map (λ n. slice_index_or renewed n false || is_given_up os us n)
    (range_with_len 0 (length renewed))

-- a machine just opened at a saved state
abbrev pub opened : Geometry → Saved → Running
opened g saved = record {
  now = saved.world;
  touched = untouched g;
  renewed = untouched g;
  frozen = None;
  saved = saved;
  to_move = saved.entries;
}
