use Rattle.noninterference.proofs.ReadWorlds.{same_for_reader}
use Rattle.noninterference.proofs.worked.worlds_are_same_for_reader.Goals as goal

pub returns : goal.returns
returns c = same_for_reader
