use Rattle.gate.proofs.Names.{ap, objects_in, BanksState, counted_listed}
use Rattle.gate.proofs.BankStates.{bank_may_ask}
use Rattle.gate.proofs.Plans.{bank_planned}
use Rattle.gate.proofs.Standing.{now_sound}
use Rattle.gate.proofs.kernel_object.plan_order.Goals as goal

pub plan-requires-clause-asks : goal.plan-requires-clause-asks
plan-requires-clause-asks g c =
    let p = g.F.Frames.parts c.args.store.now in
    bank_may_ask p c.list_writers.new.self c.args.invocation.now c.args.caller c.in-Some.bank c.needed_arguments-arguments.result
    c.requires.sound
    (counted_listed c.list_writers.ensures c.requires.counted)
    c.requires.fits c.requires.requested c.needed_arguments-arguments.ensures c.in-Some.ensures.bank

pub returns-in-Some-clause-planned : goal.returns-in-Some-clause-planned
returns-in-Some-clause-planned g c =
    let p = g.F.Frames.parts c.args.store.now in
    bank_planned p.geometry (objects_in p) c.args.invocation.now c.args.caller c.plan.result c.needed_arguments-arguments.result
    c.in-Some.bank c.in-Some.order
    c.list_writers.new.self.listed c.plan.new.self.listed (now_sound p c.requires.sound) c.requires.fits c.requires.requested
    c.needed_arguments-arguments.ensures (ap (λ (s : BanksState). s.listed) c.list_writers.ensures)
    c.in-Some.ensures.bank c.in-Some.ensures.order c.plan.ensures.planned.listed c.plan.ensures.planned.plans
