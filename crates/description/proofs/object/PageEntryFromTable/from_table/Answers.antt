use Rattle.description.proofs.Names.{table_view, refl, PageWords, IsWord}
use Rattle.description.proofs.FirstFlaws.{before_other, entries_in, passed}
use Rattle.description.proofs.object.PageEntryFromTable.from_table.Goals as goal
use Rattle.description.specs.declared.place.TableName.TheVariants as name

pub returns-in_err-words : goal.returns-in_err-words
returns-in_err-words c =
    let which = name.Page c.args.index in
    let ms = table_view c.args.table.now in
    passed _ _ _ _ _ c.from_residual-in_err-words.ensures.1 c.in_err-words.ensures
    (entries_in which PageWords ms (before_other which PageWords ms refl _ c.in_ok-number.ensures) IsWord refl (λ fits. fits) (λ d so. so)
    (λ d none. none))
