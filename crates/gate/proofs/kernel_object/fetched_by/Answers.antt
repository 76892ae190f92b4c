use Rattle.gate.proofs.Names.{subst, sym, All, Contains, Change, fetched_of}
use Rattle.std.proofs.Common.{◌<◌}
use Rattle.gate.proofs.kernel_object.fetched_by.Goals as goal

pub returns-in-Bank-clause-new : goal.returns-in-Bank-clause-new
returns-in-Bank-clause-new c = subst (λ (x : Change). All (Contains c.with_new.result) (fetched_of x)) (sym c.in-Bank.is)
    c.with_new.ensures.new

pub returns-in-Bank-clause-known : goal.returns-in-Bank-clause-known
returns-in-Bank-clause-known c count process annex all =
    c.with_new.ensures.known count process annex (subst (λ (x : Change). All (λ n. n < count) (fetched_of x)) c.in-Bank.is all)
