-- A store's frozen and saved states, and what each stage of a checkpoint does to them. F is the type of a frozen
-- state.
use Rattle.checkpoint.specs.Names.{ℕ, Option, Some, None, option_map, List, Frame, frame_at, AreKeepable}
use Rattle.std.specs.Prelude.{◌≡◌, ◌==◌, if◌then◌else◌, ◌+◌, ◌-◌, ◌<◌, ◌≤◌, ◌^◌}
use Rattle.checkpoint.specs.Saved.{SavedFrames, home_saved, replaced_saved, with_words}

-- the frozen state, if there is one, and the saved one; `to_move` counts the saved objects that aren't home
pub record Snapshots (F : Type 0) : Type 0 where
  pub frozen : Option F
  pub saved : SavedFrames
  pub to_move : ℕ

-- how to read a frozen state: the frames that it saves (given those saved before), how many objects it writes, and how
-- many of these `stabilize` has yet to reach
pub record FrozenView (F : Type 0) : Type 0 where
  pub frames : F → List Frame → List Frame
  pub size : F → ℕ
  pub left : F → ℕ

-- the snapshots with this frozen state
abbrev pub freezing : {F : Type 0} → F → Snapshots F → Snapshots F
freezing f s = record { frozen = Some f; saved = s.saved; to_move = s.to_move }

-- the saved frames after n more saved objects were copied home
abbrev pub moved_saved : {F : Type 0} → ℕ → Snapshots F → SavedFrames
moved_saved n s = if s.to_move - n == 0 then home_saved s.saved else s.saved

abbrev pub moved : {F : Type 0} → ℕ → Snapshots F → Snapshots F
moved n s = record { frozen = s.frozen; saved = moved_saved n s; to_move = s.to_move - n }

-- the snapshots after all saved objects were copied home
abbrev pub all_moved : {F : Type 0} → Snapshots F → Snapshots F
all_moved s = record { frozen = s.frozen; saved = home_saved s.saved; to_move = 0 }

-- the snapshots after object n alone was saved with a new frame; after page n alone was saved with new words
abbrev pub replaced : {F : Type 0} → ℕ → ℕ → Frame → Snapshots F → Snapshots F
replaced age n f s = record { frozen = s.frozen; saved = replaced_saved age n f s.saved; to_move = 1 }

abbrev pub journaled : {F : Type 0} → ℕ → ℕ → List ℕ → Snapshots F → Snapshots F
journaled age n words s = replaced age n (with_words words (frame_at s.saved.frames n)) s

module _ {F : Type 0} (of : FrozenView F) where
  -- how many frozen objects `stabilize` has yet to reach, if a checkpoint is frozen
  abbrev pub left_in : Snapshots F → Option ℕ
  left_in s = option_map of.left s.frozen

  -- the frames that a frozen state saves if it is committed at this age
  abbrev pub next_saved : ℕ → F → SavedFrames → SavedFrames
  next_saved age f s = record {
    geometry = s.geometry;
    frames = of.frames f s.frames;
    generation = s.generation + 1;
    entries = of.size f;
    age = age;
  }

  -- the snapshots after the frozen state was committed at this age
  abbrev pub committed : ℕ → F → Snapshots F → Snapshots F
  committed age f s = record { frozen = None; saved = next_saved age f s.saved; to_move = of.size f }

  -- the frozen state may be committed at this age as soon as all its frames are in the log
  pub record MayCommit (age : ℕ) (f : F) (s : SavedFrames) : Type 0 where
    pub later : s.age < age
    pub most : age ≤ 2 ^ 62
    pub keepable : of.left f ≡ 0 → AreKeepable s.geometry age (of.frames f s.frames)
