use Rattle.gate.proofs.Names.{refl, Void, FitsCap}
use Rattle.gate.proofs.Effects.{all_four}
use Rattle.gate.proofs.carrying.reply.Goals as goal

pub returns-clause-keepable : goal.returns-clause-keepable
returns-clause-keepable g c age fits =
    c.deliver.ensures.keepable age (all_four (FitsCap (g.F.Frames.parts c.args.store.now).geometry) c.args.reply.capability Void Void Void
    fits refl refl refl)
