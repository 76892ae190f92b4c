use Rattle.capability.proofs.Counts.{consume_keeps_sound_frames}
use Rattle.capability.proofs.laws.consume_keeps_sound_frames.Goals as goal

pub returns : goal.returns
returns c = consume_keeps_sound_frames
