use Rattle.damage_laws.proofs.Changed.{other_entries, other_unit, other_words}
use Rattle.damage_laws.proofs.laws.old_bytes_are_refused.Goals as goal

pub returns : goal.returns
returns c = record { unit = other_unit; words = other_words; entries = other_entries }
