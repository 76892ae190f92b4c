use Rattle.std.proofs.Common.{arith, refl}
use Rattle.device.proofs.Moments.{counted_ok}
use Rattle.ckpt_log.proofs.SealedDirectories.{entries_turn, reads_none}
use Rattle.ckpt_log.proofs.SealedPieces.{sums_none}
use Rattle.ckpt_log.proofs.sealed.directory.read_entries.Goals as goal

pub loop-k-init : goal.loop-k-init
loop-k-init g c = (
  λ j lt. absurd (omega (arith, lt)),
  sums_none c.args.into.now,
  reads_none {disk = g.D.Device.disk c.args.device.now} (g.met.D.Device.only_now c.args.device.now),
  refl,
)

pub loop-k-preserved : goal.loop-k-preserved
loop-k-preserved g c =
    let found = c.in_ok-found.ensures in
    entries_turn (g.D.Device.disk c.args.device.now) (g.D.Device.disk c.loop-k.device) (g.D.Device.disk c.read_next.new.device) c.args.at
    c.loop-k.k c.loop-k.into c.read_next.new.into c.loop-k.sums c.in-Some.seal c.add_sector-sums.result c.in_ok-found.found
    c.loop-k.invariant found.front found.reads (counted_ok found.cause) c.in-Some.is found.some c.add_sector-sums.ensures
