use Rattle.recovery.proofs.Names.{Option, subst, frames_of, BadImage, Tells}
use Rattle.recovery.proofs.Sound.{consistent_is_sound}
use Rattle.recovery.proofs.consistency.checking.check.Goals as goal

pub returns-in-None-clause-sound : goal.returns-in-None-clause-sound
returns-in-None-clause-sound g c =
    let p = g.F.Frames.parts c.args.store.now in
    let tells = subst (λ (why : Option BadImage). Tells (frames_of p) why) c.in-None.is c.in_ok-reason.ensures.tells in
    consistent_is_sound p.geometry c.args.age (frames_of p) c.requires.keepable c.requires.most tells.0 tells.1 tells.2
