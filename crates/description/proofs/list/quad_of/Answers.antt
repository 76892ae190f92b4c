use Rattle.description.proofs.Names.{length, sym, arith, common_steps, IsWideNumber}
use Rattle.std.proofs.Common.{◌≡◌, ◌≢◌, ◌∙◌}
use Rattle.description.proofs.Elements.{count_read, items_read}
use Rattle.description.proofs.list.quad_of.Goals as goal

pub returns-in_default : goal.returns-in_default
returns-in_default c xs four =
    let items = c.in_ok-items.items.now.items in
    let same : length xs ≡ length items = count_read IsWideNumber items xs (items_read IsWideNumber _ items xs c.in_ok-items.ensures four.1)
    in
    let other : length items ≢ 4 = grind (arith, common_steps) in
    other (sym same ∙ four.0)
