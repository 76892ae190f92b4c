use Rattle.description.proofs.Types.{text_number}
use Rattle.description.proofs.value.number_in_text.Goals as goal

pub returns : goal.returns
returns c = text_number _ _ _ c.requires c.in_ok-capability.ensures c.large_number.ensures.found c.large_number.ensures.none
