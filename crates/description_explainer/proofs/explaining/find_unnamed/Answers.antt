use Rattle.model.specs.Frame.{frames_in}
use Rattle.description_explainer.proofs.Explanations.{unnamed_none, unnamed_some}
use Rattle.description_explainer.proofs.explaining.find_unnamed.Goals as goal

pub returns-clause-none : goal.returns-clause-none
returns-clause-none c =
    let fs = frames_in c.args.frames.now.headers c.args.frames.now.contents in
    unnamed_none c.args.description.now fs c.new.result c.new.ensures c.requires.laid.described c.failing.result c.failing.ensures

pub returns-clause-some : goal.returns-clause-some
returns-clause-some c =
    let fs = frames_in c.args.frames.now.headers c.args.frames.now.contents in
    unnamed_some c.args.description.now fs c.new.result c.new.ensures c.requires.laid.described c.requires.limits c.requires.laid.numbers
    c.requires.laid.fields
    c.requires.kinds c.failing.result c.failing.ensures
