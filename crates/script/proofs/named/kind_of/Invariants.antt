use Rattle.script.proofs.Names.{ℕ, get_or, Discrim, kind_name}
use Rattle.std.proofs.Common.{◌≢◌, ◌<◌}
use Rattle.script.proofs.named.kind_of.Given as goal

abbrev pub invariant-loop-kind : goal.invariant-loop-kind
invariant-loop-kind l = (i : ℕ) → i < l.kind-index → l.word ≢ kind_name (get_or l.kind-items i Discrim)
