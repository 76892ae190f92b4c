use Rattle.script.proofs.Names.{ℕ, get_or, Send, Invoke, keyword_name}
use Rattle.std.proofs.Common.{◌≢◌, ◌<◌}
use Rattle.script.proofs.keyword.keyword_of.Given as goal

abbrev pub invariant-loop-keyword : goal.invariant-loop-keyword
invariant-loop-keyword l = (i : ℕ) → i < l.keyword-index → l.word ≢ keyword_name (get_or l.keyword-items i (Invoke Send))
