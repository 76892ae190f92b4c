use Rattle.gate.proofs.orders.plan.Goals as goal

pub returns-in-Space-clause-only : goal.returns-in-Space-clause-only
returns-in-Space-clause-only g c =
    rw c.in-Space.is (c.on_space.ensures.only _)

pub returns-in_default : goal.returns-in_default
returns-in_default g c = record {
  only = c.on_plain.ensures.only _;
  outcome = λ k. c.on_plain.ensures.outcome k _;
  change = λ k os same. c.on_plain.ensures.change k os;
}

pub returns-in-Space-clause-outcome : goal.returns-in-Space-clause-outcome
returns-in-Space-clause-outcome g c = λ k. rw c.in-Space.is (c.on_space.ensures.outcome k _)

pub returns-in-Space-clause-change : goal.returns-in-Space-clause-change
returns-in-Space-clause-change g c = λ k os same. rw c.in-Space.is (c.on_space.ensures.change k os)
