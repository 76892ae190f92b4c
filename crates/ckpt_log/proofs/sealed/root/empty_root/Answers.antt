use Rattle.ckpt_log.proofs.SealedWritten.{root_none}
use Rattle.ckpt_log.proofs.sealed.root.empty_root.Goals as goal

pub returns : goal.returns
returns c = root_none
