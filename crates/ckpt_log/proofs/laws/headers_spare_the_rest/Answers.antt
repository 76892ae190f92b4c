use Rattle.ckpt_log.proofs.Places.{next_follows, sequences_reported, spare_directories, spare_frames, spare_sectors, spare_slots}
use Rattle.ckpt_log.proofs.laws.headers_spare_the_rest.Goals as goal

pub returns : goal.returns
returns c = record {
  sequences = sequences_reported;
  next = next_follows;
  sectors = spare_sectors;
  frames = spare_frames;
  slots = spare_slots;
  directories = spare_directories;
}
