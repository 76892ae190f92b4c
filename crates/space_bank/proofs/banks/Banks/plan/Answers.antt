use Rattle.space_bank.proofs.Names.{rules, refl}
use Rattle.model.specs.declared.order.BankOrder.TheVariants as bank
use Rattle.space_bank.proofs.Plans.{planned_replying, remaining_there}
use Rattle.space_bank.proofs.banks.Banks.plan.Goals as goal

pub returns-in-NewPage-clause-planned : goal.returns-in-NewPage-clause-planned
returns-in-NewPage-clause-planned g c = rw c.in-NewPage.is (c.plan_new.ensures.planned bank.NewPage c.args.arguments refl)

pub returns-in-NewNode-clause-planned : goal.returns-in-NewNode-clause-planned
returns-in-NewNode-clause-planned g c = rw c.in-NewNode.is (c.plan_new-in-NewNode.ensures.planned bank.NewNode c.args.arguments refl)

pub returns-in-NewProcess-clause-planned : goal.returns-in-NewProcess-clause-planned
returns-in-NewProcess-clause-planned g c = rw c.in-NewProcess.is (c.plan_new-in-NewProcess.ensures.planned bank.NewProcess c.args.arguments
    refl)

pub returns-in-NewBank-clause-planned : goal.returns-in-NewBank-clause-planned
returns-in-NewBank-clause-planned g c = rw c.in-NewBank.is (c.plan_new-in-NewBank.ensures.planned bank.NewBank c.args.arguments refl)

pub returns-in-Free-clause-planned : goal.returns-in-Free-clause-planned
returns-in-Free-clause-planned g c = rw c.in-Free.is (c.plan_free.ensures.planned c.args.arguments refl)

pub returns-in-Destroy-clause-planned : goal.returns-in-Destroy-clause-planned
returns-in-Destroy-clause-planned g c = rw c.in-Destroy.is (c.plan_destroy.ensures.planned c.args.arguments)

pub returns-in-ReturnToParent-clause-planned : goal.returns-in-ReturnToParent-clause-planned
returns-in-ReturnToParent-clause-planned g c = rw c.in-ReturnToParent.is (c.plan_return.ensures.planned c.args.arguments)

pub returns-in-Remaining-clause-planned : goal.returns-in-Remaining-clause-planned
returns-in-Remaining-clause-planned g c = search (rules, planned_replying, remaining_there)
