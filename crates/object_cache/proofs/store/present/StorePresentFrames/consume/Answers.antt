use Rattle.object_cache.proofs.Names.{refl, called}
use Rattle.object_cache.proofs.Objects.{announced_known, header_becomes}
use Rattle.object_cache.proofs.Presenting.{becomes_header}
use Rattle.object_cache.proofs.store.present.StorePresentFrames.consume.Goals as goal

pub consume-requires-clause-known : goal.consume-requires-clause-known
consume-requires-clause-known g c = announced_known g.D.Device.disk c.self.view_is c.self.invariant c.requires.announced

pub invariant_of-self : goal.invariant_of-self
invariant_of-self g c = rw c.consume.ensures (header_becomes g.D.Device.disk c.self.view_is c.self.invariant c.requires.announced called
    (λ x. refl)).is

pub returns : goal.returns
returns g c =
    rw c.consume.ensures (becomes_header g.P.Policy.KEEPS_ALL g.D.Device.disk g.met.D.Device.only_now c.args.self.now _ c.args.root _
    (header_becomes g.D.Device.disk c.self.view_is c.self.invariant c.requires.announced called (λ x. refl)).view)
