use Rattle.std.proofs.Common.{arith}
use Rattle.ckpt_log.proofs.SealedCommits.{words_of}
use Rattle.ckpt_log.proofs.sealed.publishing.slot_of.Goals as goal

pub returns-clause-fits : goal.returns-clause-fits
returns-clause-fits c =
    words_of c.args.header (omega arith) (omega arith) (omega arith) (omega arith) (omega arith) (omega arith) (omega arith) (omega arith)
    (omega arith)
    (omega arith)
