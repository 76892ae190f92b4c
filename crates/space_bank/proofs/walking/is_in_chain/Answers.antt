use Rattle.space_bank.proofs.Names.{rules}
use Rattle.space_bank.proofs.Plans.{chain_past, sought_last, sought_next}
use Rattle.space_bank.proofs.walking.is_in_chain.Goals as goal

pub returns-then-link-eq0 : goal.returns-then-link-eq0
returns-then-link-eq0 g c = search (rules, sought_last)

pub loop-step-preserved : goal.loop-step-preserved
loop-step-preserved g c = search (rules, sought_next)

pub returns : goal.returns
returns g c = search (rules, chain_past)
