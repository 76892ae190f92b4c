use Rattle.layout.proofs.NumberedGates.{bursts_keep, closed_has_none, one_number, written_has}
use Rattle.layout.proofs.sealed.laws.gates_are_majorities.Goals as goal

pub returns-clause-one : goal.returns-clause-one
returns-clause-one c = one_number

pub returns-clause-written : goal.returns-clause-written
returns-clause-written c = written_has

pub returns-clause-closed : goal.returns-clause-closed
returns-clause-closed c = closed_has_none

pub returns-clause-burst : goal.returns-clause-burst
returns-clause-burst c = bursts_keep
