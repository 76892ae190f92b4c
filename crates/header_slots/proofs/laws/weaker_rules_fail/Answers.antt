use Rattle.header_slots.proofs.Wrong.{neighbours_needed, next_gate_needed, next_gate_shows, one_sync_fails}
use Rattle.header_slots.proofs.laws.weaker_rules_fail.Goals as goal

pub returns-clause-sync : goal.returns-clause-sync
returns-clause-sync c = one_sync_fails

pub returns-clause-neighbour : goal.returns-clause-neighbour
returns-clause-neighbour c = neighbours_needed

pub returns-clause-next : goal.returns-clause-next
returns-clause-next c = next_gate_needed

pub returns-clause-damage : goal.returns-clause-damage
returns-clause-damage c = next_gate_shows
