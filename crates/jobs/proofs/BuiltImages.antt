-- The outcome of `build`.
use Rattle.jobs.proofs.Names.{ℕ, Err, ap, subst, IsErrOf, Members, line_of, Disk, Description, IsDescription, BuildFault, Failed, BuildsFrom, IsWithinLimits}
use Rattle.jobs.proofs.Names.{plan_for, built_text, TellsTotal}
use Rattle.std.specs.Prelude.{Result, ◌↔◌, List}
use Rattle.std.proofs.Common.{◌≡◌}

pub refused_cause : (why : BuildFault) (P : Type 0) → ((let r : Result (Unit {0}) BuildFault = Err why in IsErrOf r Failed) ↔ P) →
    (why ≡ Failed) ↔ P
refused_cause why P caused = (λ is. caused.0 (ap (λ (f : BuildFault). Err f) is), λ rose. let is = caused.1 rose in cc)

-- if an image was built and the line with its size written, `build` reports that
pub built_told : {D : Type 0} (disk : D → Disk) (ms : Members) (old new : D) (needed : ℕ)
    → (d : Description) × IsDescription ms d × IsWithinLimits d × (needed ≡ (plan_for d).total) → BuildsFrom ms (disk old) (disk new)
    → (Reported : List ℕ → Type 0) → Reported (line_of (built_text needed)) → BuildsFrom ms (disk old) (disk new) × TellsTotal ms Reported
built_told disk ms old new needed found built Reported told =
    (built, (found.0, found.1, subst (λ (n : ℕ). Reported (line_of (built_text n))) found.3 told))
