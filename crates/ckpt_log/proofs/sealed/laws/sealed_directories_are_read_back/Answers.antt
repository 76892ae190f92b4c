use Rattle.ckpt_log.proofs.SealedDirectories.{read_back}
use Rattle.ckpt_log.proofs.sealed.laws.sealed_directories_are_read_back.Goals as goal

pub returns : goal.returns
returns c = read_back
