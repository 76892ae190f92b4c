use Rattle.std.proofs.Common.{rules}
use Rattle.layout.proofs.NumberedGates.{numbers_read}
use Rattle.layout.proofs.sealed.gate.read_numbers.Goals as goal

pub returns : goal.returns
returns c = search (rules, numbers_read)
