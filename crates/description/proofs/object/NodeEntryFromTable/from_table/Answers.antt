use Rattle.description.proofs.Names.{table_view, refl, NodeSlots, IsSlot}
use Rattle.description.proofs.FirstFlaws.{before_other, entries_in, passed}
use Rattle.description.proofs.object.NodeEntryFromTable.from_table.Goals as goal
use Rattle.description.specs.declared.place.TableName.TheVariants as name

pub returns-in_err-slots : goal.returns-in_err-slots
returns-in_err-slots c =
    let which = name.Node c.args.index in
    let ms = table_view c.args.table.now in
    passed _ _ _ _ _ c.from_residual-in_err-slots.ensures.1 c.in_err-slots.ensures
    (entries_in which NodeSlots ms (before_other which NodeSlots ms refl _ c.in_ok-number.ensures) IsSlot refl (λ fits. fits) (λ d so. so)
    (λ d none. none))
