use Rattle.object_cache.proofs.Names.{refl, owned_by}
use Rattle.object_cache.proofs.Objects.{announced_known, header_becomes}
use Rattle.object_cache.proofs.Presenting.{becomes_header}
use Rattle.object_cache.proofs.store.present.StorePresentFrames.set_owner.Goals as goal

pub set_owner-requires : goal.set_owner-requires
set_owner-requires g c = announced_known g.D.Device.disk c.self.view_is c.self.invariant c.requires

pub invariant_of-self : goal.invariant_of-self
invariant_of-self g c = rw c.set_owner.ensures (header_becomes g.D.Device.disk c.self.view_is c.self.invariant c.requires
    (owned_by c.args.bank) (λ x. refl)).is

pub returns : goal.returns
returns g c =
    rw c.set_owner.ensures (becomes_header g.P.Policy.KEEPS_ALL g.D.Device.disk g.met.D.Device.only_now c.args.self.now _ c.args.number _
    (header_becomes g.D.Device.disk c.self.view_is c.self.invariant c.requires (owned_by c.args.bank) (λ x. refl)).view)
