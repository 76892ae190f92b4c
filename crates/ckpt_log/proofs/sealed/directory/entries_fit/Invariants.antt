use Rattle.std.proofs.Common.{◌<◌, ◌^◌, ℕ}
use Rattle.layout.specs.Directory.{entry_at}
use Rattle.ckpt_log.proofs.sealed.directory.entries_fit.Given as goal

abbrev pub invariant-loop-entry : goal.invariant-loop-entry
invariant-loop-entry l =
    (k : ℕ) → k < l.entry-index → ((entry_at l.entries k).object < 2 ^ 64) × ((entry_at l.entries k).slot < 2 ^ 64)
