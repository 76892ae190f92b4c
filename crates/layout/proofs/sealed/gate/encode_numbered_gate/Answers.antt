use Rattle.layout.proofs.Names.{number, words_bytes, numbered_gate_bytes}
use Rattle.layout.proofs.sealed.gate.encode_numbered_gate.Goals as goal

pub returns : goal.returns
unfolding numbered_gate_bytes words_bytes number
returns c = c.write_u64_into.ensures
