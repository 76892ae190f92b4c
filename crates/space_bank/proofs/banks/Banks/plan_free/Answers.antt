use Rattle.space_bank.proofs.Names.{ℕ, List, [], append_assoc, sym, ap, Void, GiveUp, objects_in, BanksState, annex_among, annex_of}
use Rattle.std.proofs.Common.{◌++◌, ◌∙◌, ◌∷◌}
use Rattle.model.specs.declared.order.ResultCode.TheVariants as code
use Rattle.space_bank.proofs.Plans.{may_free, annex_kept, frees_none_there, frees_other_there, frees_own_there, planned_made, planned_refused, process_room}
use Rattle.space_bank.proofs.banks.Banks.plan_free.Goals as goal

pub list_annex-requires : goal.list_annex-requires
list_annex-requires g c = λ q is.
    process_room c.args.capability q c.in-Some.object c.requires.bank c.requires.sent is c.requires.few c.list.ensures

pub returns-in-None-clause-planned : goal.returns-in-None-clause-planned
returns-in-None-clause-planned g c = λ args is.
    let p = g.F.Frames.parts c.args.store.now in
    planned_refused code.BadCapability (λ us frame.
    frees_none_there p.geometry (objects_in p) c.args.bank args us frame c.args.capability is (c.in-None.ensures (objects_in p)))
    c.refused.ensures

pub returns-then-owner-bank-clause-planned : goal.returns-then-owner-bank-clause-planned
returns-then-owner-bank-clause-planned g c = λ args is.
    let p = g.F.Frames.parts c.args.store.now in
    let os = objects_in p in
    planned_refused code.NotFromThisBank (λ us frame.
    frees_other_there p.geometry os c.args.bank args us frame c.args.capability c.in-Some.object (annex_of os c.args.capability) is
    (c.in-Some.ensures os) (λ e. c.if-owner-bank.true (c.owner.ensures ∙ e))) c.refused-then-owner-bank.ensures

pub returns-else-owner-bank-clause-planned : goal.returns-else-owner-bank-clause-planned
returns-else-owner-bank-clause-planned g c = λ args is.
    let p = g.F.Frames.parts c.args.store.now in
    let os = objects_in p in
    let first = c.args.self.now.listed in
    let object = c.in-Some.object in
    let annex = annex_of os c.args.capability in
    let own = sym c.owner.ensures ∙ c.if-owner-bank.false in
    planned_made (object ∷ annex) Void (GiveUp c.args.bank)
    (λ us frame. frees_own_there p.geometry os c.args.bank args us frame c.args.capability object annex is (c.in-Some.ensures os) own)
    (λ us frame now. may_free c.requires.bank frame now c.args.capability object annex c.requires.sent.1 (c.in-Some.ensures os) own)
    c.changed.ensures
    (ap (λ (s : BanksState). s.listed) c.list_annex.ensures ∙ ap (λ (s : BanksState). s.listed ++ annex_among s.annexes c.args.capability)
    c.list.ensures
    ∙ ap (λ (ns : List ℕ). (first ++ object ∷ []) ++ ns) (annex_kept c.args.capability c.requires.bank c.requires.sent)
    ∙ append_assoc first (object ∷ []) annex)
