use Rattle.std.proofs.Common.{◌≡◌, length}
use Rattle.layout.specs.sealed.Root.{directory_sums}
use Rattle.layout.specs.sealed.Directory.{HaveEntries, directory_length, seals_of}
use Rattle.ckpt_log.specs.sealed.Directory.{TouchesAt}
use Rattle.ckpt_log.proofs.sealed.directory.write_directory.Given as goal

abbrev pub invariant-loop-k : goal.invariant-loop-k
invariant-loop-k g l =
    HaveEntries (g.D.Device.disk l.device).seen l.at l.entries l.k
    × (l.sums ≡ directory_sums (seals_of l.entries l.k))
    × TouchesAt l.at (directory_length (length l.entries)) (g.D.Device.disk l.fn.device) (g.D.Device.disk l.device)
    × ((g.D.Device.disk l.device).failures ≡ (g.D.Device.disk l.fn.device).failures)
    × (l.k ≡ 0 → l.device ≡ l.fn.device)
