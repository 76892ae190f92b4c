use Rattle.header_slots.proofs.Counting.{one_committed}
use Rattle.header_slots.proofs.Publishing.{gate_commits, header_commits_nothing, published_commits, runs_commit}
use Rattle.header_slots.proofs.laws.publishing_is_safe.Goals as goal

pub returns-clause-header : goal.returns-clause-header
returns-clause-header c = header_commits_nothing

pub returns-clause-gate : goal.returns-clause-gate
returns-clause-gate c = gate_commits

pub returns-clause-end : goal.returns-clause-end
returns-clause-end c = published_commits

pub returns-clause-one : goal.returns-clause-one
returns-clause-one c = one_committed

pub returns-clause-runs : goal.returns-clause-runs
returns-clause-runs c = runs_commit
