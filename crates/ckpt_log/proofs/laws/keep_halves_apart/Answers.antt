use Rattle.ckpt_log.proofs.Places.{directories_inside}
use Rattle.ckpt_log.proofs.laws.keep_halves_apart.Goals as goal

pub returns-clause-directories : goal.returns-clause-directories
returns-clause-directories c = directories_inside
