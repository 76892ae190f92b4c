use Rattle.std.proofs.Common.{sym}
use Rattle.ckpt_log.proofs.SealedReading.{no_slot, three_numbers}
use Rattle.ckpt_log.proofs.sealed.committed.numbers_of.Goals as goal

pub returns : goal.returns
returns c = rw (c.number_of.ensures, c.number_of-2.ensures, c.number_of-3.ensures) (sym (three_numbers c.args.slots.now no_slot c.requires))
