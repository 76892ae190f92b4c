use Rattle.vezhnake.proofs.Names.{sym, subst, [], None, command_of, HostKernel, RawReply, ServesEachOver, IfNone, IfSome}
use Rattle.std.proofs.Common.{◌≡◌, ◌∷◌}
use Rattle.vezhnake.specs.declared.host_kernel.HostKernel.TheVariants as store
use Rattle.vezhnake.proofs.host_kernel.HostKernel.serve_one.Goals as goal

pub returns-in-Plain-clause-served : goal.returns-in-Plain-clause-served
returns-in-Plain-clause-served c =
    subst (λ (k : HostKernel). IfSome c.serve_one.result (λ (reply : RawReply).
    ServesEachOver k (store.Plain c.serve_one.new.kernel) (command_of c.args.raw.now ∷ []) (reply ∷ [])))
    (sym c.in-Plain.is) c.serve_one.ensures.served

pub returns-in-Plain-clause-none : goal.returns-in-Plain-clause-none
returns-in-Plain-clause-none c =
    subst (λ (k : HostKernel). IfNone c.serve_one.result ((command_of c.args.raw.now ≡ None)
    × ServesEachOver k (store.Plain c.serve_one.new.kernel) [] []))
    (sym c.in-Plain.is) c.serve_one.ensures.none

pub returns-in-Bounded-clause-served : goal.returns-in-Bounded-clause-served
returns-in-Bounded-clause-served c =
    subst (λ (k : HostKernel). IfSome c.serve_one-in-Bounded.result (λ (reply : RawReply).
    ServesEachOver k (store.Bounded c.serve_one-in-Bounded.new.kernel) (command_of c.args.raw.now ∷ []) (reply ∷ [])))
    (sym c.in-Bounded.is) c.serve_one-in-Bounded.ensures.served

pub returns-in-Bounded-clause-none : goal.returns-in-Bounded-clause-none
returns-in-Bounded-clause-none c =
    subst (λ (k : HostKernel). IfNone c.serve_one-in-Bounded.result ((command_of c.args.raw.now ≡ None)
    × ServesEachOver k (store.Bounded c.serve_one-in-Bounded.new.kernel) [] []))
    (sym c.in-Bounded.is) c.serve_one-in-Bounded.ensures.none
