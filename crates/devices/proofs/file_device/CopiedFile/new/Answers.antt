use Rattle.devices.proofs.Names.{nat_tests, arith}
use Rattle.devices.proofs.Copies.{copy_fresh}
use Rattle.devices.proofs.file_device.CopiedFile.new.Goals as goal

pub invariant_of-result : goal.invariant_of-result
invariant_of-result g c = record {
  sound = grind (arith, nat_tests, copy_fresh);
}
