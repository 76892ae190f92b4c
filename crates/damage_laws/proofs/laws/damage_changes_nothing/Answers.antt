use Rattle.damage_laws.proofs.Damage.{changes_nothing}
use Rattle.damage_laws.proofs.Refused.{either_way}
use Rattle.damage_laws.proofs.laws.damage_changes_nothing.Goals as goal

pub returns : goal.returns
returns c = record { state = either_way; header = changes_nothing }
