use Rattle.ckpt_log.proofs.SavedStates.{frames_behind, old_denoted, new_denoted}
use Rattle.ckpt_log.proofs.laws.a_commit_leaves_either_state.Goals as goal

pub returns : goal.returns
returns c = record { behind = frames_behind; old = old_denoted; new = new_denoted }
