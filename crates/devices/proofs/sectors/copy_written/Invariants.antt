use Rattle.devices.proofs.Names.{take, All, image_of, Patches, names}
use Rattle.std.proofs.Common.{◌<◌}
use Rattle.devices.proofs.sectors.copy_written.Given as goal

abbrev pub invariant-loop-entry : goal.invariant-loop-entry
invariant-loop-entry l = record {
  patched : Patches (names (take l.entry-index l.entries)) (image_of l.from) (image_of l.initial.into) (image_of l.into);
  fits : All (λ b. b < 256) l.initial.into → All (λ b. b < 256) l.into;
}
