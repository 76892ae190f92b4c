use Rattle.image_explainer.proofs.Joined.{said}
use Rattle.image_explainer.proofs.fault.ImageFault.line.Goals as goal

pub returns-clause-text : goal.returns-clause-text
returns-clause-text c =
    said c.args.self c.reason.result c.number.result c.place-line.result c.push.new.self c.number-2.new.self c.push-2.new.self
    c.place-line.ensures.text c.push.ensures c.reason.ensures c.number.ensures.value c.number-2.ensures.text c.push-2.ensures
