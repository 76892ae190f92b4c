use Rattle.cache_entries.proofs.Names.{rules, length}
use Rattle.std.proofs.Common.{◌+◌, ◌<◌, ◌∙◌}
use Rattle.cache_entries.proofs.Logs.{Settling, one_left_out, one_settled}
use Rattle.cache_entries.proofs.use_order.settle.Goals as goal
use Rattle.cache_entries.proofs.use_order.settle.Goals.{then-not-is_outdated, else-not-is_outdated}

pub loop-index-preserved : goal.loop-index-preserved
loop-index-preserved c =
    let uses = c.args.log.now.uses in
    let i = c.loop-index.index in
    let o = c.loop-index.order in
    let before = c.loop-index.invariant in
    let below : i < length uses = search rules in
    let after : Settling uses (i + 1) c.args.order.now c.if-not-is_outdated.order = elim c.if-not-is_outdated.branch [
      | then-not-is_outdated w ↦ one_settled uses i c.args.order.now o c.if-not-is_outdated.order below before.same before.listed
          w.number.result
          w.number.ensures (w.order-is ∙ w.promote.ensures)
      | else-not-is_outdated w ↦ one_left_out uses i c.args.order.now o c.if-not-is_outdated.order below before.same before.listed
          w.order-is
          (c.is_outdated.ensures w.if-not-is_outdated.false)
    ] in
    record { same = after.same; listed = after.listed }
