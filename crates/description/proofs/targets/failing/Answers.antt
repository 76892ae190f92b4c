use Rattle.description.proofs.Names.{subst, AllOfProcess, IsFirst, OneOfProcess}
use Rattle.description.proofs.NamedCapabilities.{process_lacks}
use Rattle.description.proofs.targets.failing.Goals as goal

pub returns-in-Some : goal.returns-in-Some
returns-in-Some g c =
    let P = g.N.Naming.Passes c.args.naming.now in
    process_lacks P c.args.description.now c.in-Some.field-0-0 c.in-Some.at
    (subst (λ ps. IsFirst (AllOfProcess P) (λ p. OneOfProcess P c.in-Some.field-0-0 p c.in-Some.at) ps c.in-Some.field-0-0)
    c.deref.ensures.value
    c.in-Some.ensures)
