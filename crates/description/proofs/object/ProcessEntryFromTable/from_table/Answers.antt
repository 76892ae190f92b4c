use Rattle.description.proofs.Names.{table_view, refl, ProcessRegisters, IsSlot}
use Rattle.description.proofs.FirstFlaws.{before_registers, entries_in, passed}
use Rattle.description.proofs.object.ProcessEntryFromTable.from_table.Goals as goal
use Rattle.description.specs.declared.place.TableName.TheVariants as name

pub returns-in_err-registers : goal.returns-in_err-registers
returns-in_err-registers c =
    let i = c.args.index in
    let ms = table_view c.args.table.now in
    passed _ _ _ _ _ c.from_residual-in_err-registers.ensures.1 c.in_err-registers.ensures
    (entries_in (name.Process i) ProcessRegisters ms (before_registers i ms _ c.in_ok-fields.ensures) IsSlot refl (λ fits. fits)
    (λ d so. so) (λ d none. none))
