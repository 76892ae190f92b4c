use Rattle.description.proofs.Names.{take, All, AreWords}
use Rattle.description.proofs.fields.bad_pages.Given as goal

-- the words of the first k pages are valid
abbrev pub invariant-loop-k : goal.invariant-loop-k
invariant-loop-k l = All (λ p. AreWords p.words.items) (take l.k l.pages)
