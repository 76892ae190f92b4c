use Rattle.std.proofs.Common.{w64}
use Rattle.std.proofs.lemmas.Nat.Bits.{bit_at_set_other, bit_at_clear_other}
use Rattle.collections.proofs.bits.with_bit.Goals as goal

pub returns-then-set-clause-others : goal.returns-then-set-clause-others
returns-then-set-clause-others c other _ apart = bit_at_set_other w64 _ _ c.requires other apart

pub returns-else-set-clause-others : goal.returns-else-set-clause-others
returns-else-set-clause-others c other within apart = bit_at_clear_other w64 _ _ c.requires other within apart
