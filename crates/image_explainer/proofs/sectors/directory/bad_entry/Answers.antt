use Rattle.std.proofs.Common.{ℕ, arith, subst, ◌<◌}
use Rattle.image_explainer.proofs.Directories.{all_among}
use Rattle.image_explainer.proofs.sectors.directory.bad_entry.Goals as goal

pub returns-in-Some-clause-first : goal.returns-in-Some-clause-first
returns-in-Some-clause-first c = λ j lt. c.loop-index.invariant j (subst (λ (k : ℕ). j < k) c.in-Some.ensures.own lt)

pub unreachable-requires : goal.unreachable-requires
unreachable-requires c = c.requires.bad (all_among c.args.geometry c.args.entries.now (λ k lt. c.loop-index.invariant k (omega arith)))
