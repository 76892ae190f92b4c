use Rattle.space_bank.proofs.Names.{rules, ap, Void, under, GiveUp, objects_in, BanksState}
use Rattle.space_bank.proofs.Plans.{may_destroy, destroy_prime, destroy_there, planned_made, planned_refused}
use Rattle.space_bank.proofs.banks.Banks.plan_destroy.Goals as goal

pub returns-then-bank-eq0-clause-planned : goal.returns-then-bank-eq0-clause-planned
returns-then-bank-eq0-clause-planned g c = search (rules, planned_refused, destroy_prime)

pub returns-clause-planned : goal.returns-clause-planned
returns-clause-planned g c = λ args.
    let p = g.F.Frames.parts c.args.store.now in
    planned_made (under (objects_in p) c.args.bank) Void (GiveUp c.owner-above.result)
    (λ us frame. destroy_there p.geometry (objects_in p) c.args.bank args us frame c.if-bank-eq0.false)
    (λ us frame now. may_destroy c.requires.bank frame now c.if-bank-eq0.false c.owner-above.result c.owner-above.ensures) c.changed.ensures
    (ap (λ (s : BanksState). s.listed) c.list_all.ensures)
