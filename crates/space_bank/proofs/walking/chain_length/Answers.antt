use Rattle.space_bank.proofs.Names.{rules}
use Rattle.space_bank.proofs.Plans.{chain_next, chain_past}
use Rattle.space_bank.proofs.walking.chain_length.Goals as goal

pub loop-passed-preserved : goal.loop-passed-preserved
loop-passed-preserved g c = search (rules, chain_next)

pub returns : goal.returns
returns g c = search (rules, chain_past)
