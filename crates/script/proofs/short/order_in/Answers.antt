use Rattle.script.proofs.ShortInvocations.{invocation_said}
use Rattle.script.proofs.short.order_in.Goals as goal

pub returns-clause-reads : goal.returns-clause-reads
returns-clause-reads c = λ sent rest.
    invocation_said c.in_ok-named.named.operation c.args.line.now _ _ _ _ _ _ _ sent c.in_ok-named.ensures.reads
    c.in_ok-process.ensures.reads
    c.in_ok-register.ensures.reads c.in_ok-four.ensures.reads rest
