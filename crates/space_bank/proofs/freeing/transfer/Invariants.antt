use Rattle.space_bank.proofs.Names.{ℕ, take, AreCurrent, AreKeepable, KeepsRest, frames_of, objects_in, AreTransferred}
use Rattle.space_bank.proofs.freeing.transfer.Given as goal

abbrev pub invariant-loop-number : goal.invariant-loop-number
invariant-loop-number g l =
    let p = g.F.Frames.parts l.initial.store in
    let q = g.F.Frames.parts l.store in
    record {
      objects : AreTransferred (take l.number-index l.numbers) l.bank (objects_in p) (objects_in q);
      current : AreCurrent (frames_of p) → AreCurrent (frames_of q);
      keepable : (age : ℕ) → AreKeepable p.geometry age (frames_of p) → AreKeepable p.geometry age (frames_of q);
      snapshots : KeepsRest g.F.Frames.parts g.F.Frames.IsFetched g.F.PresentFrames.IsAnnounced g.F.Frames.ContinuesTo l.initial.store
          l.store;
    }
