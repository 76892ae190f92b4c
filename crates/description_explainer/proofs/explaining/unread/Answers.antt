use Rattle.description_explainer.proofs.Explanations.{misshapen_explained}
use Rattle.description_explainer.proofs.explaining.unread.Goals as goal

pub returns-in-Misshapen : goal.returns-in-Misshapen
returns-in-Misshapen c table misses = misshapen_explained table c.args.why c.in-Misshapen.place c.in-Misshapen.is misses
