use Rattle.description.proofs.Names.{table_view, refl, BankLimit}
use Rattle.description.proofs.FirstFlaws.{before_other, passed, value_in}
use Rattle.description.proofs.object.BankEntryFromTable.from_table.Goals as goal
use Rattle.description.specs.declared.place.TableName.TheVariants as name

pub returns-in_err-limit : goal.returns-in_err-limit
returns-in_err-limit c =
    let which = name.Bank c.args.index in
    let ms = table_view c.args.table.now in
    passed _ _ _ _ _ c.from_residual-in_err-limit.ensures.1 c.in_err-limit.ensures
    (value_in which BankLimit ms (before_other which BankLimit ms refl _ c.in_ok-number.ensures) _ refl (λ fits. fits))
