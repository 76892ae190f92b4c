use Rattle.vezhnake.proofs.Names.{sym, subst, take, HostKernel, map, command_of, ServesEachOver}
use Rattle.vezhnake.specs.declared.host_kernel.HostKernel.TheVariants as store
use Rattle.vezhnake.proofs.host_kernel.HostKernel.serve_each.Goals as goal

pub returns-in-Plain-clause-served : goal.returns-in-Plain-clause-served
returns-in-Plain-clause-served c =
    subst (λ (k : HostKernel).
    ServesEachOver k (store.Plain c.serve_each.new.kernel) (take c.serve_each.result (map command_of c.args.commands.now))
    (take c.serve_each.result c.serve_each.new.replies))
    (sym c.in-Plain.is) c.serve_each.ensures.served

pub returns-in-Bounded-clause-served : goal.returns-in-Bounded-clause-served
returns-in-Bounded-clause-served c =
    subst (λ (k : HostKernel).
    ServesEachOver k (store.Bounded c.serve_each-in-Bounded.new.kernel) (take c.serve_each-in-Bounded.result
    (map command_of c.args.commands.now))
    (take c.serve_each-in-Bounded.result c.serve_each-in-Bounded.new.replies))
    (sym c.in-Bounded.is) c.serve_each-in-Bounded.ensures.served
