use Rattle.space_bank.proofs.Names.{true, false, ap, refl, sym, Capability, has_quota, objects_in, count_of, given_by, numbers_of, BanksState}
use Rattle.std.proofs.Common.{◌≡◌, ◌∙◌}
use Rattle.model.specs.declared.order.ResultCode.TheVariants as code
use Rattle.space_bank.proofs.Plans.{may_new, making, new_is, planned_made, planned_refused}
use Rattle.space_bank.proofs.banks.Banks.plan_new.Goals as goal

pub returns-then-not-has_quota-clause-planned : goal.returns-then-not-has_quota-clause-planned
returns-then-not-has_quota-clause-planned g c = λ order args is.
    let p = g.F.Frames.parts c.args.store.now in
    let full : has_quota (objects_in p) c.args.bank (count_of c.args.new) ≡ false = cc in
    planned_refused code.Limit (λ us frame. new_is p.geometry (objects_in p) c.args.bank order args c.args.new is us frame ∙ rw full refl)
    c.refused.ensures

pub returns-in-None-clause-planned : goal.returns-in-None-clause-planned
returns-in-None-clause-planned g c = λ order args is.
    let p = g.F.Frames.parts c.args.store.now in
    let room : has_quota (objects_in p) c.args.bank (count_of c.args.new) ≡ true = cc in
    planned_refused code.NoFrame
    (λ us frame. new_is p.geometry (objects_in p) c.args.bank order args c.args.new is us frame
    ∙ rw (room, sym c.in-None.ensures.made) refl)
    c.refused-in-None.ensures

pub returns-then-is_deep-clause-planned : goal.returns-then-is_deep-clause-planned
returns-then-is_deep-clause-planned g c = λ order args is.
    let p = g.F.Frames.parts c.args.store.now in
    let room : has_quota (objects_in p) c.args.bank (count_of c.args.new) ≡ true = cc in
    planned_refused code.TooDeep (λ us frame. new_is p.geometry (objects_in p) c.args.bank order args c.args.new is us frame
    ∙ rw (room, sym c.in-Some.ensures.made, sym c.is_deep.ensures ∙ c.if-is_deep.true) refl) c.refused-then-is_deep.ensures

pub returns-else-is_deep-clause-planned : goal.returns-else-is_deep-clause-planned
returns-else-is_deep-clause-planned g c = λ order args is.
    let p = g.F.Frames.parts c.args.store.now in
    let made = c.in-Some.change in
    let room : has_quota (objects_in p) c.args.bank (count_of c.args.new) ≡ true = cc in
    let short = sym c.is_deep.ensures ∙ c.if-is_deep.false in
    planned_made (numbers_of made) (given_by made) made
    (λ us frame. new_is p.geometry (objects_in p) c.args.bank order args c.args.new is us frame
    ∙ rw (room, sym c.in-Some.ensures.made, short) refl)
    (λ us frame now. may_new c.requires.bank frame now c.args.new made room (sym c.in-Some.ensures.made) short)
    (c.made.ensures ∙ ap (λ (k : Capability). making k made) c.given_by.ensures) (ap (λ (s : BanksState). s.listed) c.list_new.ensures)
