use Rattle.space_bank.proofs.Names.{rules, owner_read}
use Rattle.space_bank.proofs.walking.owner.Goals as goal

pub returns : goal.returns
returns g c = search (rules, owner_read)
