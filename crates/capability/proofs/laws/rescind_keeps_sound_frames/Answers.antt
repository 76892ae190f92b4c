use Rattle.capability.proofs.Counts.{rescind_keeps_sound_frames}
use Rattle.capability.proofs.laws.rescind_keeps_sound_frames.Goals as goal

pub returns : goal.returns
returns c = rescind_keeps_sound_frames
