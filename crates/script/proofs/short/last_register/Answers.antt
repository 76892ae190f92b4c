use Rattle.script.proofs.ShortInvocations.{last_register_reads}
use Rattle.script.proofs.short.last_register.Goals as goal

pub returns : goal.returns
returns c = last_register_reads _ _ c.register_of.result c.in_ok-last_number.ensures c.register_of.ensures.register
    c.register_of.ensures.some.0
