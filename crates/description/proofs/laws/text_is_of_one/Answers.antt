use Rattle.script.proofs.CapabilityTexts.{text_once}
use Rattle.description.proofs.laws.text_is_of_one.Goals as goal

pub returns : goal.returns
returns c = text_once
