use Rattle.vezhnake.proofs.Names.{sym, subst, HostKernel, ServesLineOver}
use Rattle.vezhnake.specs.declared.host_kernel.HostKernel.TheVariants as store
use Rattle.vezhnake.proofs.host_kernel.HostKernel.serve.Goals as goal

pub returns-in-Plain : goal.returns-in-Plain
returns-in-Plain c =
    subst (λ (k : HostKernel). ServesLineOver k (store.Plain c.serve.new.kernel) c.args.command.now c.serve.result) (sym c.in-Plain.is)
    c.serve.ensures

pub returns-in-Bounded : goal.returns-in-Bounded
returns-in-Bounded c =
    subst (λ (k : HostKernel). ServesLineOver k (store.Bounded c.serve-in-Bounded.new.kernel) c.args.command.now c.serve-in-Bounded.result)
    (sym c.in-Bounded.is) c.serve-in-Bounded.ensures
