use Rattle.layout.proofs.Roots.{no_order, one_old_sector, one_old_unit}
use Rattle.layout.proofs.sealed.laws.one_old_block_is_seen.Goals as goal

pub returns-clause-unit : goal.returns-clause-unit
returns-clause-unit c = one_old_unit

pub returns-clause-sector : goal.returns-clause-sector
returns-clause-sector c = one_old_sector

pub returns-clause-order : goal.returns-clause-order
returns-clause-order c = no_order
