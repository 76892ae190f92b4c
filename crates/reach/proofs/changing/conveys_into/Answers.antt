use Rattle.reach.proofs.Names.{refl, is_marked, links}
use Rattle.reach.proofs.Sources.{conveys_nowhere}
use Rattle.reach.proofs.changing.conveys_into.Goals as goal

pub returns-in-None-clause-none : goal.returns-in-None-clause-none
returns-in-None-clause-none c = λ _. conveys_nowhere (links c.args.purpose (is_marked c.args.trusted.now)) (is_marked c.args.inside.now)
    c.args.capability
    (c.in-None.ensures.none refl)
