use Rattle.cache_entries.proofs.Names.{sym, arith, used_all}
use Rattle.std.proofs.Common.{◌∙◌}
use Rattle.cache_entries.proofs.Logs.{least_below, least_in_turn, moves, settled_full}
use Rattle.cache_entries.proofs.use_order.find_least.Goals as goal

pub has-requires : goal.has-requires
has-requires c =
    omega (
      arith,
      least_below c.loop.order c.least-number.ensures.spread c.least-number.result c.least-number.ensures.least,
      c.loop.invariant.log.count,
    )

pub returns-then-not-has-clause-least : goal.returns-then-not-has-clause-least
returns-then-not-has-clause-least c =
    least_in_turn c.settle_few.new.log.uses c.loop.order.numbers c.least-number.result (sym c.has.ensures ∙ c.if-not-has.true)
    c.least-number.ensures.least

pub loop-preserved : goal.loop-preserved
loop-preserved c =
    let after = moves c.settle_few.new.log c.loop.order c.loop.invariant.log (used_all c.args.log.now.uses c.args.order.now)
    c.promote.new.self c.least-number.result c.loop.invariant.same
    c.loop.invariant.full (sym c.has.ensures ∙ c.if-not-has.false) c.promote.ensures in
    record { same = after.same; log = after.log; full = after.full }

pub least-requires : goal.least-requires
least-requires c = settled_full c.settle_few.new.log c.loop.order c.loop.invariant.log c.settle.new.order c.settle.ensures.order
    c.loop.invariant.full
