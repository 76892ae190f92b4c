use Rattle.std.proofs.Common.{◌≡◌}
use Rattle.layout.specs.Calls.{ReadsOnly}
use Rattle.layout.specs.sealed.Root.{directory_sums}
use Rattle.layout.specs.sealed.Directory.{HaveEntries, seals_of}
use Rattle.ckpt_log.proofs.sealed.directory.read_entries.Given as goal

abbrev pub invariant-loop-k : goal.invariant-loop-k
invariant-loop-k g l =
    HaveEntries (g.D.Device.disk l.fn.device).seen l.at l.into l.k
    × (l.sums ≡ directory_sums (seals_of l.into l.k))
    × ReadsOnly (g.D.Device.disk l.fn.device) (g.D.Device.disk l.device)
    × ((g.D.Device.disk l.device).failures ≡ (g.D.Device.disk l.fn.device).failures)
