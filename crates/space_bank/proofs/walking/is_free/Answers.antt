use Rattle.space_bank.proofs.Names.{rules, role_free, role_read, role_used}
use Rattle.space_bank.proofs.walking.is_free.Goals as goal

pub returns-in-Free : goal.returns-in-Free
returns-in-Free g c = search (rules, role_read, role_free)

pub returns-in_default : goal.returns-in_default
returns-in_default g c = search (rules, role_read, role_used)
