use Rattle.description.proofs.Names.{take, All, IsSomeCapability}
use Rattle.description.proofs.fields.first_text.Given as goal

-- the first i texts name capabilities
abbrev pub invariant-loop-i : goal.invariant-loop-i
invariant-loop-i l = All (λ s. IsSomeCapability s.capability) (take l.i l.slots)
