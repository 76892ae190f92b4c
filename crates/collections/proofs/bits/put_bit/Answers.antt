use Rattle.collections.proofs.Marks.{bit_put}
use Rattle.collections.proofs.bits.put_bit.Goals as goal

pub returns-clause-put : goal.returns-clause-put
returns-clause-put c = bit_put _ _ _ _ c.requires c.with_bit-word.ensures.here c.with_bit-word.ensures.others
