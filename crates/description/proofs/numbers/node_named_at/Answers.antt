use Rattle.std.proofs.Common.{refl}
use Rattle.std.proofs.Common.{◌∙◌}
use Rattle.description.proofs.NumberPlaces.{node_number}
use Rattle.description.proofs.numbers.node_named_at.Goals as goal

pub returns-clause-number : goal.returns-clause-number
returns-clause-number c =
    let d = c.args.description.now in
    node_number d _ _ _ _ _ (c.len-banks.ensures ∙ d.banks.ok.0) (c.len-processes.ensures ∙ d.processes.ok.0) c.if-place-banks.false refl
    c.if-root-processes.false refl c.if-annex-processes.false
