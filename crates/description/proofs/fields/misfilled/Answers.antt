use Rattle.description.proofs.Names.{subst, IsFirst, IsProcessEntry, BreaksProcess, process_of}
use Rattle.description.proofs.FieldFlaws.{process_broken}
use Rattle.description.proofs.fields.misfilled.Goals as goal

pub returns-in-Some : goal.returns-in-Some
returns-in-Some c = process_broken c.args.description.now c.in-Some.part
    (subst (λ ps. IsFirst IsProcessEntry (λ p. BreaksProcess p c.in-Some.part) ps (process_of c.in-Some.part)) c.deref.ensures.value
    c.in-Some.ensures)
