use Rattle.command_line.proofs.requested.job_of.Goals as goal

pub returns-in-Reach-clause-none : goal.returns-in-Reach-clause-none
returns-in-Reach-clause-none c = rw c.in-Reach.is c.reach_of.ensures.none
