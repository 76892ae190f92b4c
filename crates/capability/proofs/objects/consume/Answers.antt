use Rattle.capability.proofs.Keeping.{call_stays_keepable}
use Rattle.capability.proofs.objects.consume.Goals as goal

pub returns-clause-keepable : goal.returns-clause-keepable
returns-clause-keepable g c =
    let old = g.F.Frames.parts c.args.store.now in
    let new = g.F.Frames.parts c.consume.new.self in
    let at = g.met.F.PresentFrames.known_announced c.args.store.now c.args.process c.requires.announced in
    λ age few keepable. call_stays_keepable old.geometry age old new c.args.process at.0 few c.consume.ensures.parts_are keepable
