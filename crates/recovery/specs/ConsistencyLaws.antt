-- The world of consistent frames is sound, and that of inconsistent ones isn't.
use Rattle.recovery.specs.Names.{ℕ, List, Frame, Geometry, AreKeepable, IsSoundFrames, BadImage, AreBanked, AreNamed}
use Rattle.recovery.specs.Names.{AreWholeProcesses}
use Rattle.std.specs.Prelude.{◌^◌, ◌≤◌}
use Rattle.recovery.specs.Consistency.{IsInconsistent}

-- frames that have encodings, and for which none of reasons 8 to 10 holds, are sound
abbrev pub ConsistentIsSound : Type 0
ConsistentIsSound = (g : Geometry) (age : ℕ) (fs : List Frame) → AreKeepable g age fs → age ≤ 2 ^ 62 →
    AreNamed fs → AreWholeProcesses fs → AreBanked fs → IsSoundFrames g age fs

-- frames for which one of reasons 8 to 10 holds aren't sound
abbrev pub InconsistentIsUnsound : Type 0
InconsistentIsUnsound = (g : Geometry) (age : ℕ) (fs : List Frame) (why : BadImage) → IsInconsistent fs why →
    IsSoundFrames g age fs → ⊥
