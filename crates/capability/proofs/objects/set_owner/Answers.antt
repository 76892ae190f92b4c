use Rattle.capability.proofs.Keeping.{owner_stays_keepable}
use Rattle.capability.proofs.objects.set_owner.Goals as goal

pub returns-clause-keepable : goal.returns-clause-keepable
returns-clause-keepable g c =
    let old = g.F.Frames.parts c.args.store.now in
    let new = g.F.Frames.parts c.set_owner.new.self in
    let at = g.met.F.PresentFrames.known_announced c.args.store.now c.args.number c.requires.announced in
    λ age unowned keepable. owner_stays_keepable old.geometry age old new c.args.number at.0 c.args.bank c.ranges.bank.fits unowned
    c.set_owner.ensures.parts_are keepable
