use Rattle.devices.proofs.Names.{nat_tests, arith}
use Rattle.devices.proofs.Patches.{patches_on, names_more}
use Rattle.devices.proofs.sectors.copy_written.Goals as goal

pub loop-entry-preserved : goal.loop-entry-preserved
loop-entry-preserved c = record {
  patched = grind (arith, nat_tests, patches_on, names_more);
  fits = λ was. c.copy_sector.ensures.fits (c.loop-entry.invariant.fits was);
}
