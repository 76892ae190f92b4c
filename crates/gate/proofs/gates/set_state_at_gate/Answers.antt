use Rattle.gate.proofs.gates.set_state_at_gate.Goals as goal

pub returns-in-Call-clause-keepable : goal.returns-in-Call-clause-keepable
returns-in-Call-clause-keepable g c age k = c.set_state.ensures.keepable age tt k

pub returns-in-Return-clause-keepable : goal.returns-in-Return-clause-keepable
returns-in-Return-clause-keepable g c age k = c.set_state-in-Return.ensures.keepable age tt k
