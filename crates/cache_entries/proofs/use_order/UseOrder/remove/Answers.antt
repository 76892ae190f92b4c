use Rattle.std.proofs.Common.{◌∙◌}
use Rattle.cache_entries.proofs.Logs.{removed_log, removed_view}
use Rattle.cache_entries.proofs.use_order.UseOrder.remove.Goals as goal

pub invariant_of-self : goal.invariant_of-self
invariant_of-self c =
    let settled = c.settle_if_used in
    removed_log settled.new.log settled.new.order settled.ensures.log (settled.ensures.same ∙ c.self.view_is) c.args.number
    settled.ensures.unused
    c.remove.new.self c.remove.ensures

pub returns : goal.returns
returns c =
    let settled = c.settle_if_used in
    removed_view settled.new.log settled.new.order settled.ensures.log (settled.ensures.same ∙ c.self.view_is) c.args.number
    settled.ensures.unused
    c.remove.new.self c.remove.ensures
