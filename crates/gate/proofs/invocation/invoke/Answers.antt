use Rattle.gate.proofs.Names.{rules}
use Rattle.gate.proofs.BankStates.{counted_after}
use Rattle.gate.proofs.Effects.{invoked_looked}
use Rattle.gate.proofs.Standing.{gate_no_bank, keepable_most, requested_by}
use Rattle.gate.proofs.invocation.invoke.Goals as goal

pub fetch_process-requires-clause-may : goal.fetch_process-requires-clause-may
fetch_process-requires-clause-may g c = record {
  usable = c.requires.usable;
  keepable = keepable_most (g.F.Frames.parts c.args.store.now) c.requires.sound;
}

pub returns-in-Some-clause-counted : goal.returns-in-Some-clause-counted
returns-in-Some-clause-counted g c = search (rules, counted_after, gate_no_bank)

pub returns-in-Some-clause-invoked : goal.returns-in-Some-clause-invoked
returns-in-Some-clause-invoked g c =
    invoked_looked c.args.invocation.now g.met.F.Frames.continues_twice c.invoke_gate.new.store c.in_ok-annex.ensures.fetches
    c.invoke_gate.result
    c.invoke_gate.ensures

pub returns-in-None-clause-invoked : goal.returns-in-None-clause-invoked
returns-in-None-clause-invoked g c =
    invoked_looked c.args.invocation.now g.met.F.Frames.continues_twice c.invoke_order.new.store c.in_ok-annex.ensures.fetches
    c.invoke_order.result
    c.invoke_order.ensures.invoked

pub invoke_gate-requires-clause-requested : goal.invoke_gate-requires-clause-requested
invoke_gate-requires-clause-requested g c = search (rules, requested_by)

pub invoke_order-requires-clause-requested : goal.invoke_order-requires-clause-requested
invoke_order-requires-clause-requested g c = search (rules, requested_by)
