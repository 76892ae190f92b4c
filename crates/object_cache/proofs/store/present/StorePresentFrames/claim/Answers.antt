use Rattle.object_cache.proofs.Names.{sym, ap, true≢false, is_some, claimed, void_held, role_of, fresh_content}
use Rattle.std.proofs.Common.{◌∙◌}
use Rattle.object_cache.proofs.Objects.{announced_known, both_become, entry_some}
use Rattle.object_cache.proofs.Presenting.{becomes_both}
use Rattle.object_cache.proofs.store.present.StorePresentFrames.claim.Goals as goal

pub claim-requires : goal.claim-requires
claim-requires g c = entry_some g.D.Device.disk c.self.view_is c.self.invariant c.requires.fetched

pub claim-requires-2 : goal.claim-requires-2
claim-requires-2 g c = announced_known g.D.Device.disk c.self.view_is c.self.invariant c.requires.announced

pub invariant_of-self : goal.invariant_of-self
invariant_of-self g c =
    let body = fresh_content void_held c.args.fresh in
    let some = entry_some g.D.Device.disk c.self.view_is c.self.invariant c.requires.fetched in
    rw (c.claim.ensures, c.claim-2.ensures, c.role_of.ensures)
    (both_become g.D.Device.disk c.self.view_is c.self.invariant c.requires.announced (claimed (role_of body) c.args.owner) body
    (λ none. absurd (true≢false (sym some ∙ ap is_some none)))).is

pub returns : goal.returns
returns g c =
    let body = fresh_content void_held c.args.fresh in
    let some = entry_some g.D.Device.disk c.self.view_is c.self.invariant c.requires.fetched in
    rw (c.claim.ensures, c.claim-2.ensures, c.role_of.ensures) (becomes_both g.P.Policy.KEEPS_ALL g.D.Device.disk g.met.D.Device.only_now
    c.args.self.now _ c.args.number _ _
    (both_become g.D.Device.disk c.self.view_is c.self.invariant c.requires.announced (claimed (role_of body) c.args.owner) body
    (λ none. absurd (true≢false (sym some ∙ ap is_some none)))).view)
