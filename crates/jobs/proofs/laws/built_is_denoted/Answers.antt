use Rattle.jobs.proofs.Names.{refl, first_saved}
use Rattle.jobs.proofs.laws.built_is_denoted.Goals as goal

pub returns : goal.returns
returns c = λ d frames size image sound holds.
    record { frames = first_saved d.geometry d.age frames; holds = holds; sound = record { geometry = refl; sound = sound }; stands = refl }
