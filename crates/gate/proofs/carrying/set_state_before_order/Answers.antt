use Rattle.gate.proofs.carrying.set_state_before_order.Goals as goal

pub returns-in-Return-clause-keepable : goal.returns-in-Return-clause-keepable
returns-in-Return-clause-keepable g c age k = c.set_state.ensures.keepable age tt k
