use Rattle.image_explainer.proofs.Names.{ap, sym, NotPaired, not_paired_text}
use Rattle.std.proofs.Common.{◌++◌, ◌∙◌}
use Rattle.image_explainer.proofs.Joined.{joined_3, joined_4}
use Rattle.image_explainer.proofs.text.add_not_paired.Goals as goal

pub returns-in-Misplaced-clause-text : goal.returns-in-Misplaced-clause-text
returns-in-Misplaced-clause-text c =
    joined_3 c.args.line.now _ _ c.push-in-Misplaced.new.self c.number.new.self c.push-in-Misplaced.ensures c.number.ensures.text _
    c.push-in-Misplaced-2.new.self c.push-in-Misplaced-2.ensures
    ∙ ap (λ (x : NotPaired). c.args.line.now ++ not_paired_text x) (sym c.in-Misplaced.is)

pub returns-in-Renumbered-clause-text : goal.returns-in-Renumbered-clause-text
returns-in-Renumbered-clause-text c =
    joined_4 c.args.line.now _ _ c.push-in-Renumbered.new.self c.number-in-Renumbered.new.self c.push-in-Renumbered.ensures
    c.number-in-Renumbered.ensures.text _ c.push-in-Renumbered-2.new.self c.push-in-Renumbered-2.ensures _
    c.number-in-Renumbered-2.new.self c.number-in-Renumbered-2.ensures.text
    ∙ ap (λ (x : NotPaired). c.args.line.now ++ not_paired_text x) (sym c.in-Renumbered.is)

pub returns-in-Alone-clause-text : goal.returns-in-Alone-clause-text
returns-in-Alone-clause-text c =
    joined_3 c.args.line.now _ _ c.push-in-Alone.new.self c.number-in-Alone.new.self c.push-in-Alone.ensures
    c.number-in-Alone.ensures.text _
    c.push-in-Alone-2.new.self c.push-in-Alone-2.ensures
    ∙ ap (λ (x : NotPaired). c.args.line.now ++ not_paired_text x) (sym c.in-Alone.is)
