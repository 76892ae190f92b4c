use Rattle.ckpt_log.proofs.SavedStates.{same_header, same_directory, same_frames, same_saved, same_units}
use Rattle.ckpt_log.proofs.laws.saved_is_read_from_its_sectors.Goals as goal

pub returns : goal.returns
returns c = record { header = same_header; directory = same_directory; frames = same_frames; units = same_units; saved = same_saved }
