use Rattle.script.proofs.Names.{ℕ, get_or, Waiting, state_text}
use Rattle.std.proofs.Common.{◌≢◌, ◌<◌}
use Rattle.script.proofs.named.state_of.Given as goal

abbrev pub invariant-loop-state : goal.invariant-loop-state
invariant-loop-state l = (i : ℕ) → i < l.state-index → state_text (get_or l.state-items i Waiting) ≢ l.text
