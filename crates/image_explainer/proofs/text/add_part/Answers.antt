use Rattle.image_explainer.proofs.Names.{ap, sym, FramePart, frame_part_text}
use Rattle.std.proofs.Common.{◌++◌, ◌∙◌}
use Rattle.image_explainer.proofs.Joined.{joined_3, joined_4}
use Rattle.image_explainer.proofs.text.add_part.Goals as goal

pub returns-in-Calls-clause-text : goal.returns-in-Calls-clause-text
returns-in-Calls-clause-text c =
    joined_4 c.args.line.now _ _ c.push-in-Calls.new.self c.number-in-Calls.new.self c.push-in-Calls.ensures c.number-in-Calls.ensures.text
    _
    c.push-in-Calls-2.new.self c.push-in-Calls-2.ensures _ c.number-in-Calls-2.new.self c.number-in-Calls-2.ensures.text
    ∙ ap (λ (x : FramePart). c.args.line.now ++ frame_part_text x) (sym c.in-Calls.is)

pub returns-in-Slot-clause-text : goal.returns-in-Slot-clause-text
returns-in-Slot-clause-text c =
    joined_3 c.args.line.now _ _ c.push-in-Slot.new.self c.number-in-Slot.new.self c.push-in-Slot.ensures c.number-in-Slot.ensures.text _
    c.push-in-Slot-2.new.self c.push-in-Slot-2.ensures
    ∙ ap (λ (x : FramePart). c.args.line.now ++ frame_part_text x) (sym c.in-Slot.is)

pub returns-in-Body-clause-text : goal.returns-in-Body-clause-text
returns-in-Body-clause-text c =
    c.push-in-Body.ensures
    ∙ ap (λ (x : FramePart). c.args.line.now ++ frame_part_text x) (sym c.in-Body.is)
