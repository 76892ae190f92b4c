use Rattle.layout.proofs.FrameReaders.{frame_again}
use Rattle.layout.proofs.laws.what_is_spelt_is_read.Goals as goal

pub returns : goal.returns
returns c = frame_again
