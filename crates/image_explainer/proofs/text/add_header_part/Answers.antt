use Rattle.image_explainer.proofs.Names.{ap, sym, HeaderPart, header_part_text}
use Rattle.std.proofs.Common.{◌++◌, ◌∙◌}
use Rattle.image_explainer.proofs.Joined.{joined_2, joined_3, joined_4}
use Rattle.image_explainer.proofs.text.add_header_part.Goals as goal

pub returns-in-Age-clause-text : goal.returns-in-Age-clause-text
returns-in-Age-clause-text c =
    joined_3 c.args.line.now _ _ c.push-in-Age.new.self c.number-in-Age.new.self c.push-in-Age.ensures c.number-in-Age.ensures.text _
    c.push-in-Age-2.new.self
    c.push-in-Age-2.ensures
    ∙ ap (λ (x : HeaderPart). c.args.line.now ++ header_part_text x) (sym c.in-Age.is)

pub returns-in-Generation-clause-text : goal.returns-in-Generation-clause-text
returns-in-Generation-clause-text c =
    joined_4 c.args.line.now _ _ c.push-in-Generation.new.self c.number-in-Generation.new.self c.push-in-Generation.ensures
    c.number-in-Generation.ensures.text
    _ c.push-in-Generation-2.new.self c.push-in-Generation-2.ensures _ c.number-in-Generation-2.new.self
    c.number-in-Generation-2.ensures.text
    ∙ ap (λ (x : HeaderPart). c.args.line.now ++ header_part_text x) (sym c.in-Generation.is)

pub returns-in-Bytes-clause-text : goal.returns-in-Bytes-clause-text
returns-in-Bytes-clause-text c =
    c.push-in-Bytes.ensures
    ∙ ap (λ (x : HeaderPart). c.args.line.now ++ header_part_text x) (sym c.in-Bytes.is)

pub returns-in-Lost-clause-text : goal.returns-in-Lost-clause-text
returns-in-Lost-clause-text c =
    joined_2 c.args.line.now _ _ c.push-in-Lost.new.self c.number-in-Lost.new.self c.push-in-Lost.ensures c.number-in-Lost.ensures.text
    ∙ ap (λ (x : HeaderPart). c.args.line.now ++ header_part_text x) (sym c.in-Lost.is)
