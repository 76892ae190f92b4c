use Rattle.model.specs.Frame.{frames_in}
use Rattle.description_explainer.proofs.Explanations.{explains_owner}
use Rattle.description_explainer.proofs.explaining.explain_banks.Goals as goal

pub returns-in-Ok-Some : goal.returns-in-Ok-Some
returns-in-Ok-Some c =
    let fs = frames_in c.args.frames.now.headers c.args.frames.now.contents in
    let why = rw c.in-Ok-Some.field-0-is at c.in-Ok-Some.ensures.found in
    explains_owner c.args.description.now c.requires.limits c.requires.laid.numbers c.requires.laid.fields fs c.requires.laid.described
    c.in-Ok-Some.unbanked
    c.requires.named why
