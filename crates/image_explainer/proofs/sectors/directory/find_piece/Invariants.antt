use Rattle.image_explainer.proofs.Names.{length, ReadsOnly, HaveEntries}
use Rattle.std.proofs.Common.{◌≡◌}
use Rattle.image_explainer.proofs.sectors.directory.find_piece.Given as goal

abbrev pub invariant-loop-k : goal.invariant-loop-k
invariant-loop-k g l =
    HaveEntries (g.D.Device.disk l.fn.device).seen l.at l.into l.k × (length l.into ≡ length l.fn.into)
    × ReadsOnly (g.D.Device.disk l.fn.device) (g.D.Device.disk l.device)
    × ((g.D.Device.disk l.device).failures ≡ (g.D.Device.disk l.fn.device).failures)
