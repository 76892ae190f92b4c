use Rattle.object_cache.proofs.Names.{refl, given_up}
use Rattle.model.specs.declared.object.Content.TheVariants as content
use Rattle.object_cache.proofs.Objects.{announced_entry, both_become}
use Rattle.object_cache.proofs.Presenting.{becomes_both}
use Rattle.object_cache.proofs.store.present.StorePresentFrames.reset.Goals as goal

pub free-requires : goal.free-requires
free-requires g c = announced_entry g.D.Device.disk c.self.view_is c.self.invariant c.requires.announced

pub invariant_of-self : goal.invariant_of-self
invariant_of-self g c =
    rw (c.rescind.ensures, c.free.ensures)
    (both_become g.D.Device.disk c.self.view_is c.self.invariant c.requires.announced given_up content.Free (λ none. (refl, refl))).is

pub returns : goal.returns
returns g c =
    rw (c.rescind.ensures, c.free.ensures) (becomes_both g.P.Policy.KEEPS_ALL g.D.Device.disk g.met.D.Device.only_now c.args.self.now _
    c.args.number _ _
    (both_become g.D.Device.disk c.self.view_is c.self.invariant c.requires.announced given_up content.Free (λ none. (refl, refl))).view)
