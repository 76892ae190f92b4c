use Rattle.vezhnake.proofs.Names.{ℕ, List, Some, Vec, Global, ap, subst, sym, RunsText, in_memory}
use Rattle.std.proofs.Common.{◌∙◌}
use Rattle.vezhnake.proofs.Surviving.{only_to_write, runs_text}
use Rattle.vezhnake.proofs.host_kernel.run_lines.Goals as goal

pub returns-clause-runs : goal.returns-clause-runs
returns-clause-runs g c =
    let writer = c.new-writer.result in
    let begins = ap (λ (v : Vec ℕ Global). in_memory v.items writer.failures.number) (c.new-writer.ensures.inner ∙ c.replace.ensures.value)
    ∙ ap (λ (n : ℕ). in_memory c.args.answers.now.items n) c.new-writer.ensures.failures in
    subst (λ (v : Vec ℕ Global). RunsText g.S.ObjectStore.view g.S.Frames.parts c.args.kernel.now c.run-outcome.new.kernel c.args.text.now
    c.args.answers.now.items v.items c.run-outcome.result) (sym c.into_inner.ensures)
    (runs_text g.S.ObjectStore.view g.S.Frames.parts c.crashes_in_runs_are_survived.ensures c.args.kernel.now c.run-outcome.new.kernel
    c.args.text.now
    c.args.answers.now.items c.run-outcome.new.writer.inner.items c.run-outcome.new.writer.failures.number
    (in_memory writer.inner.items writer.failures.number) begins
    (Some c.new-reader.result.rest.now) (Some c.run-outcome.new.reader.rest.now) (ap (λ (bytes : List ℕ). Some bytes) c.new-reader.ensures)
    c.run-outcome.result c.run-outcome.ensures.runs c.run-outcome.ensures.confined)

pub returns-clause-fault : goal.returns-clause-fault
returns-clause-fault g c = only_to_write c.run-outcome.result 0 c.run-outcome.ensures.goes_on c.run-outcome.ensures.read_failed
