use Rattle.migrator.proofs.Names.{ap, sym, subst, row, IsWhole, alone_frame_slot, beside_frame_slot, own_frame_slot, sealed_frame_slot, Row}
use Rattle.std.proofs.Common.{◌∙◌}
use Rattle.migrator.proofs.find.find_frame_slot.Goals as goal

pub returns-then-is_whole : goal.returns-then-is_whole
returns-then-is_whole c =
    c.find.ensures
    ∙ sym (alone_frame_slot c.args.plan.now c.args.entries.now c.args.number c.shape.ensures.plan c.requires.object
    (subst IsWhole c.shape.ensures.value (c.is_whole.ensures.0 c.if-is_whole.true)) c.requires.directory.each)

pub returns-then-row : goal.returns-then-row
returns-then-row c =
    c.find_beside.ensures
    ∙ sym (sealed_frame_slot c.args.plan.now c.args.entries.now c.args.number
    (sym (ap (λ (r : Row). r.sealed) (c.row.ensures.value ∙ ap row c.version.ensures.value)) ∙ c.if-row.true))

pub returns-in-Some : goal.returns-in-Some
returns-in-Some c =
    sym (own_frame_slot c.args.plan.now c.args.entries.now c.args.number
    (sym (ap (λ (r : Row). r.sealed) (c.row.ensures.value ∙ ap row c.version.ensures.value)) ∙ c.if-row.false) (sym c.in-Some.ensures))

pub returns-in-None : goal.returns-in-None
returns-in-None c =
    c.find_beside-in-None.ensures ∙ sym (beside_frame_slot c.args.plan.now c.args.entries.now c.args.number (sym c.in-None.ensures))
