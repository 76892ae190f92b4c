use Rattle.recovery.proofs.Sound.{consistent_is_sound}
use Rattle.recovery.proofs.consistency.laws.consistent_is_sound.Goals as goal

pub returns : goal.returns
returns c = consistent_is_sound
