use Rattle.model_laws.proofs.Journaling.{journal_keeps_sound}
use Rattle.model_laws.proofs.soundness.journal_keeps_sound.Goals as goal

pub returns : goal.returns
returns c = journal_keeps_sound
