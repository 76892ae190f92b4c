-- If a property holds of a value that is a table, it holds of the table.
use Rattle.description.proofs.Names.{arith, subst, sym, Data, Members, table, same_Some, IsTable}
use Rattle.std.proofs.Common.{◌≡◌, ◌∙◌}

pub in_table : {A : Type 0} (P : Members → A → Type 0) (d : Data) (ms : Members) (x : A) → d ≡ table ms → IsTable P d x → P ms x
in_table P d ms x is said = subst (λ ns. P ns x) (search (arith, same_Some, said.0, sym said.1 ∙ is)) said.2
