use Rattle.recovery.proofs.Names.{ℕ, vec_len, vec_capacity, frame_at, frames_of, note_at, noted_in}
use Rattle.std.proofs.Common.{◌≡◌, ◌<◌, ◌≤◌}
use Rattle.recovery.proofs.Looking.{HasLooked}
use Rattle.recovery.proofs.consistency.processes.read_notes.Given as goal

abbrev pub invariant-loop-number : goal.invariant-loop-number
invariant-loop-number g l =
    let fs = frames_of (g.F.Frames.parts l.initial.store) in
    record {
      count : vec_len l.notes ≡ l.number;
      room : l.count ≤ vec_capacity l.notes;
      each : (m : ℕ) → m < l.number → note_at l.notes.items m ≡ noted_in (frame_at fs m).content;
      looked : HasLooked g.F.Frames.parts g.F.Frames.ContinuesTo l.initial.store l.store;
    }
