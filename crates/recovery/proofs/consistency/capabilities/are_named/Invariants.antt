use Rattle.recovery.proofs.Names.{ℕ, All, frame_at, caps_in, frames_of, IsNamed}
use Rattle.std.proofs.Common.{◌<◌}
use Rattle.recovery.proofs.Looking.{HasLooked}
use Rattle.recovery.proofs.consistency.capabilities.are_named.Given as goal

abbrev pub invariant-loop-number : goal.invariant-loop-number
invariant-loop-number g l =
    let fs = frames_of (g.F.Frames.parts l.initial.store) in
    record {
      each : (m : ℕ) → m < l.number → All (IsNamed fs) (caps_in (frame_at fs m).content);
      looked : HasLooked g.F.Frames.parts g.F.Frames.ContinuesTo l.initial.store l.store;
    }
