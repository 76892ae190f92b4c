use Rattle.capability.proofs.Names.{rules, take_all}
use Rattle.capability.proofs.Counts.{current_given_up, keepable_given_up, objects_given_up}
use Rattle.capability.proofs.objects.rescind.Goals as goal

pub returns-clause-objects : goal.returns-clause-objects
returns-clause-objects g c = search (rules, take_all, objects_given_up)

pub returns-clause-current : goal.returns-clause-current
returns-clause-current g c = search (rules, take_all, current_given_up)

pub returns-clause-keepable : goal.returns-clause-keepable
returns-clause-keepable g c = search (rules, take_all, keepable_given_up)
