use Rattle.std.proofs.Common.{arith}
use Rattle.devices.proofs.Patches.{patches_on, names_more}
use Rattle.devices.proofs.sectors.fill_written.Goals as goal

pub loop-entry-preserved : goal.loop-entry-preserved
loop-entry-preserved c = record {
  patched = patches_on _ _ _ _ _ _ _ c.loop-entry.invariant.patched c.fill_sector.ensures.patched
      (names_more c.args.entries.now c.loop-entry.entry-index _ (omega arith));
  fits = λ was. c.fill_sector.ensures.fits (c.loop-entry.invariant.fits was);
}
