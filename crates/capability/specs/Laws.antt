-- Raising counts rescinds and consumes, as `model` defines it.
use Rattle.capability.specs.Names.{ℕ, List, length, Geometry, called, header_at, AreCurrent, IsSoundFrames, consume}
use Rattle.capability.specs.Names.{rescind, IsSound}
use Rattle.std.specs.Prelude.{◌≡◌, ◌+◌, ◌<◌}
use Rattle.capability.specs.Parts.{AreGivenUp, Parts, frames_of, with_header, objects_in}

-- raising both counts of the members of a set, and freeing them, rescinds them
abbrev pub GivenUpIsRescinded : Type 0
GivenUpIsRescinded =
    (set : List ℕ) (old new : Parts) → AreCurrent (frames_of old) → AreGivenUp set old new →
    objects_in new ≡ rescind set (objects_in old)

-- raising the call count of a process consumes the capabilities that resume it
abbrev pub CalledIsConsumed : Type 0
CalledIsConsumed = (p : ℕ) (old new : Parts) → AreCurrent (frames_of old) → p < length old.headers →
    new ≡ with_header old p (called (header_at old.headers p)) →
    objects_in new ≡ consume p (objects_in old)

-- after a rescind or a consume, frames are sound at the next age if their world is
abbrev pub RescindKeepsSoundFrames : Type 0
RescindKeepsSoundFrames =
    (g : Geometry) (age : ℕ) (set : List ℕ) (old new : Parts) →
    IsSoundFrames g age (frames_of old) → AreGivenUp set old new →
    IsSound g (record { objects = rescind set (objects_in old); age = age + 1 }) →
    IsSoundFrames g (age + 1) (frames_of new)

abbrev pub ConsumeKeepsSoundFrames : Type 0
ConsumeKeepsSoundFrames =
    (g : Geometry) (age p : ℕ) (old new : Parts) → IsSoundFrames g age (frames_of old) →
    p < length old.headers → new ≡ with_header old p (called (header_at old.headers p)) →
    IsSound g (record { objects = consume p (objects_in old); age = age + 1 }) →
    IsSoundFrames g (age + 1) (frames_of new)
