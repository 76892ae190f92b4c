use Rattle.header_slots.proofs.Broken.{broken_seen}
use Rattle.header_slots.proofs.laws.damage_changes_nothing.Goals as goal

pub returns : goal.returns
returns c = broken_seen
