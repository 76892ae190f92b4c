use Rattle.seal.proofs.Bursts.{bursts_change, few_changes}
use Rattle.seal.proofs.Damaged.{bursts_break}
use Rattle.seal.proofs.laws.damage_is_seen.Goals as goal

pub returns-clause-numbers : goal.returns-clause-numbers
returns-clause-numbers c = few_changes

pub returns-clause-burst : goal.returns-clause-burst
returns-clause-burst c = bursts_change

pub returns-clause-sealed : goal.returns-clause-sealed
returns-clause-sealed c = bursts_break
