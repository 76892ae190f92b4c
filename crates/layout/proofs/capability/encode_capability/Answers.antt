use Rattle.layout.proofs.Names.{common_steps, arith}
use Rattle.layout.proofs.Capabilities.{as_numbers, three_written}
use Rattle.layout.proofs.capability.encode_capability.Goals as goal

pub returns : goal.returns
returns c = grind (arith, common_steps, as_numbers, three_written)
