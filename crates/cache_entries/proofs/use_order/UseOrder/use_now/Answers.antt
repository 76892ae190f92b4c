use Rattle.std.proofs.Common.{◌∙◌}
use Rattle.cache_entries.proofs.Logs.{known_before, logged, member_is}
use Rattle.cache_entries.proofs.use_order.UseOrder.use_now.Goals as goal

pub push-requires-clause-known : goal.push-requires-clause-known
push-requires-clause-known c =
    let spare = c.spare_use in
    known_before spare.new.log spare.new.order spare.ensures.log (spare.ensures.same ∙ c.self.view_is) c.len.ensures.spread c.args.number
    c.requires

pub invariant_of-self : goal.invariant_of-self
invariant_of-self c =
    let spare = c.spare_use in
    logged spare.new.log spare.new.order spare.ensures.log c.push.new.self c.args.number
    (member_is spare.new.log spare.new.order spare.ensures.log (spare.ensures.same ∙ c.self.view_is) c.args.number ∙ c.requires)
    c.push.ensures
