use Rattle.description.proofs.Names.{subst, FirstLacks, IsTarget}
use Rattle.description.proofs.FieldFlaws.{field_refuted}
use Rattle.description.proofs.NamedCapabilities.{kind_broken, target_refuted}
use Rattle.description.proofs.laying.check_objects.Goals as goal

pub returns-in-Some-clause-fault : goal.returns-in-Some-clause-fault
returns-in-Some-clause-fault c = (c.requires, field_refuted c.args.description.now c.in-Some.part c.in-Some.ensures)

pub returns-in-Some-failing-clause-fault : goal.returns-in-Some-failing-clause-fault
returns-in-Some-failing-clause-fault c =
    let d = c.args.description.now in
    let held = c.in-Some-failing.held in
    let lacks = subst (λ g. FirstLacks (IsTarget g) d held) c.new.ensures c.in-Some-failing.ensures in
    (c.requires, c.in_default.ensures, target_refuted d held c.requires c.in_default.ensures (kind_broken d held c.requires lacks))
