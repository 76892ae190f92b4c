use Rattle.model_laws.proofs.SoundGates.{invocation_keeps}
use Rattle.model_laws.proofs.soundness.invocation_keeps_sound.Goals as goal

pub returns : goal.returns
returns c = invocation_keeps
