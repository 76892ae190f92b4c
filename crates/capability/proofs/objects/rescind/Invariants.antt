use Rattle.capability.proofs.Names.{ℕ, false, take, is_member, AreGivenUp}
use Rattle.std.proofs.Common.{◌≡◌}
use Rattle.capability.proofs.objects.rescind.Given as goal

abbrev pub invariant-loop-number : goal.invariant-loop-number
invariant-loop-number g l = record {
  given_up : AreGivenUp (take l.number-index l.numbers) (g.F.Frames.parts l.initial.store) (g.F.Frames.parts l.store);
  fetched : (n : ℕ) → is_member (take l.number-index l.numbers) n ≡ false → g.F.Frames.IsFetched l.initial.store n →
      g.F.Frames.IsFetched l.store n;
  announced : (n : ℕ) → is_member (take l.number-index l.numbers) n ≡ false → g.F.PresentFrames.IsAnnounced l.initial.store n →
      g.F.PresentFrames.IsAnnounced l.store n;
  continues : g.F.Frames.ContinuesTo l.initial.store l.store;
}
