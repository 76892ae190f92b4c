use Rattle.damage_laws.proofs.Damage.{is_harmless}
use Rattle.damage_laws.proofs.Refused.{encodes_none, gates_not_read, is_refused}
use Rattle.damage_laws.proofs.laws.damage_is_seen.Goals as goal

pub returns : goal.returns
returns c = record { refused = is_refused; none = encodes_none; elsewhere = is_harmless; gates = gates_not_read }
