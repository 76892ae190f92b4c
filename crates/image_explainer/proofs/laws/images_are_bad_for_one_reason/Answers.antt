use Rattle.image_explainer.proofs.Reasons.{one_reason}
use Rattle.image_explainer.proofs.laws.images_are_bad_for_one_reason.Goals as goal

pub returns : goal.returns
returns c = one_reason
