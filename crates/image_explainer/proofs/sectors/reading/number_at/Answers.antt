use Rattle.image_explainer.proofs.Names.{ap, arith, take_rest, little_number, number_read}
use Rattle.std.proofs.Common.{◌∙◌}
use Rattle.image_explainer.proofs.sectors.reading.number_at.Goals as goal

pub returns-clause-rest : goal.returns-clause-rest
returns-clause-rest c = number_read c.args.bytes.now c.args.at c.read_u64.result c.requires (λ i. omega (arith, c.type_inv.bytes i))
    (c.read_u64.ensures ∙ ap (little_number 8) (take_rest c.args.bytes.now c.args.at))
