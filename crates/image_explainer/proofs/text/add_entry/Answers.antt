use Rattle.image_explainer.proofs.Names.{ap, sym, DirectoryPart, directory_part_text}
use Rattle.std.proofs.Common.{◌++◌, ◌∙◌}
use Rattle.image_explainer.proofs.Joined.{joined_6}
use Rattle.image_explainer.proofs.text.add_entry.Goals as goal

pub returns-in-Shared-clause-text : goal.returns-in-Shared-clause-text
returns-in-Shared-clause-text c =
    joined_6 c.args.line.now _ _ c.push-in-Shared.new.self c.number-in-Shared.new.self c.push-in-Shared.ensures
    c.number-in-Shared.ensures.text _
    c.push-in-Shared-2.new.self
    c.push-in-Shared-2.ensures _ c.number-in-Shared-2.new.self c.number-in-Shared-2.ensures.text _ _ c.push-in-Shared-3.new.self
    c.number-in-Shared-3.new.self
    c.push-in-Shared-3.ensures c.number-in-Shared-3.ensures.text
    ∙ ap (λ (x : DirectoryPart). c.args.line.now ++ directory_part_text x) (sym c.in-Shared.is)
