use Rattle.image_explainer.proofs.Names.{ap, sym, NotCounted, not_counted_text}
use Rattle.std.proofs.Common.{◌++◌, ◌∙◌}
use Rattle.image_explainer.proofs.Joined.{joined_3}
use Rattle.image_explainer.proofs.text.add_not_counted.Goals as goal

pub returns-in-Misplaced-clause-text : goal.returns-in-Misplaced-clause-text
returns-in-Misplaced-clause-text c =
    joined_3 c.args.line.now _ _ c.push-in-Misplaced.new.self c.number.new.self c.push-in-Misplaced.ensures c.number.ensures.text _
    c.push-in-Misplaced-2.new.self c.push-in-Misplaced-2.ensures
    ∙ ap (λ (x : NotCounted). c.args.line.now ++ not_counted_text x) (sym c.in-Misplaced.is)
