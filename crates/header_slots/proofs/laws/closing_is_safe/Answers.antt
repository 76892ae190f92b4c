use Rattle.header_slots.proofs.Closing.{old_third_first, other_third_last}
use Rattle.header_slots.proofs.laws.closing_is_safe.Goals as goal

pub returns-clause-older : goal.returns-clause-older
returns-clause-older c = old_third_first

pub returns-clause-other : goal.returns-clause-other
returns-clause-other c = other_third_last
