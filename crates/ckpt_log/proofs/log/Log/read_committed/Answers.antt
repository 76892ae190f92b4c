use Rattle.std.proofs.Common.{drop, subst}
use Rattle.device.specs.Disk.{Image}
use Rattle.device.proofs.Images.{agrees_is}
use Rattle.layout.specs.Denoted.{HasDirectory}
use Rattle.ckpt_log.proofs.CommittedHeaders.{has_committed}
use Rattle.ckpt_log.proofs.log.Log.read_committed.Goals as goal

pub returns-clause-found : goal.returns-clause-found
returns-clause-found g c =
    let old = (g.D.Device.disk c.args.device.now).seen in
    let h = c.in_ok-header.header in
    let seen = agrees_is (g.D.Device.disk c.read_header.new.device).seen old c.in_ok-header.ensures.reads.seen in
    has_committed old c.args.self.now h c.read_named.new.into (drop h.header.entries c.args.directory.now) c.in_ok-header.ensures.found
    (subst (λ (i : Image). HasDirectory i c.args.self.now h c.read_named.new.into) seen c.in_ok-read_named.ensures.found)
