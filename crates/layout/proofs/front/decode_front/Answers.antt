use Rattle.std.proofs.Common.{rules}
use Rattle.layout.proofs.Frames.{four_read}
use Rattle.layout.proofs.front.decode_front.Goals as goal

pub returns-clause-bytes : goal.returns-clause-bytes
returns-clause-bytes c = search (rules, four_read)
