use Rattle.description.proofs.Names.{subst, MatchOption, Option, HasNumbers, BreaksNumber, Misnumbered}
use Rattle.description.proofs.NumberPlaces.{number_refuted}
use Rattle.description.proofs.laying.check.Goals as goal

pub returns-in-Some-clause-fault : goal.returns-in-Some-clause-fault
returns-in-Some-clause-fault c =
    let d = c.args.description.now in
    number_refuted d c.in-Some.number (subst (λ (o : Option Misnumbered). MatchOption o (HasNumbers d) (BreaksNumber d)) c.in-Some.is
    c.in_ok-found.ensures)
