use Rattle.ckpt_log.proofs.Directories.{slots_read_back, directories_read_back}
use Rattle.ckpt_log.proofs.laws.what_is_written_is_read.Goals as goal

pub returns : goal.returns
returns c = record { slots = slots_read_back; directories = directories_read_back }
