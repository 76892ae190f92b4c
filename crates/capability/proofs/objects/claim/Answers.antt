use Rattle.capability.proofs.Keeping.{claim_stays_keepable}
use Rattle.capability.proofs.objects.claim.Goals as goal

pub returns-clause-keepable : goal.returns-clause-keepable
returns-clause-keepable g c =
    let old = g.F.Frames.parts c.args.store.now in
    let new = g.F.Frames.parts c.claim.new.self in
    let at = g.met.F.PresentFrames.known_announced c.args.store.now c.args.number c.requires.announced in
    λ age fits keepable. claim_stays_keepable age old new c.args.number at.0 at.1 c.args.fresh c.args.owner c.ranges.owner.fits fits
    c.requires.place
    c.claim.ensures.parts_are keepable
