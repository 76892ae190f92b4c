use Rattle.vezhnake.proofs.Names.{sym, subst, HostKernel, RunsKernel}
use Rattle.vezhnake.specs.declared.host_kernel.HostKernel.TheVariants as store
use Rattle.vezhnake.proofs.host_kernel.HostKernel.run_text.Goals as goal

pub returns-in-Plain-clause-runs : goal.returns-in-Plain-clause-runs
returns-in-Plain-clause-runs c =
    subst (λ (k : HostKernel).
    RunsKernel k (store.Plain c.run_lines.new.kernel) c.args.text.now c.args.answers.now.items c.run_lines.new.answers.items
    c.run_lines.result)
    (sym c.in-Plain.is) c.run_lines.ensures.runs

pub returns-in-Bounded-clause-runs : goal.returns-in-Bounded-clause-runs
returns-in-Bounded-clause-runs c =
    subst (λ (k : HostKernel).
    RunsKernel k (store.Bounded c.run_lines-in-Bounded.new.kernel) c.args.text.now c.args.answers.now.items
    c.run_lines-in-Bounded.new.answers.items
    c.run_lines-in-Bounded.result)
    (sym c.in-Bounded.is) c.run_lines-in-Bounded.ensures.runs
