use Rattle.object_cache.proofs.Names.{changed_root, with_root_in}
use Rattle.object_cache.proofs.Objects.{content_becomes, entry_some}
use Rattle.object_cache.proofs.Presenting.{becomes_held}
use Rattle.object_cache.proofs.store.present.StorePresentFrames.change_root.Goals as goal

pub change_root-requires : goal.change_root-requires
change_root-requires g c = entry_some g.D.Device.disk c.self.view_is c.self.invariant c.requires.fetched

pub invariant_of-self : goal.invariant_of-self
invariant_of-self g c =
    rw c.change_root.ensures (content_becomes g.D.Device.disk c.self.view_is c.self.invariant c.requires.announced c.requires.fetched
    (with_root_in (changed_root c.args.change))).is

pub returns : goal.returns
returns g c =
    rw c.change_root.ensures (becomes_held g.P.Policy.KEEPS_ALL g.D.Device.disk g.met.D.Device.only_now c.args.self.now _ c.args.process _
    (content_becomes g.D.Device.disk c.self.view_is c.self.invariant c.requires.announced c.requires.fetched
    (with_root_in (changed_root c.args.change))).view)
