use Rattle.layout.proofs.Names.{ap, sym, row}
use Rattle.std.proofs.Common.{◌∙◌}
use Rattle.layout.specs.declared.version.Row.{Row}
use Rattle.layout.proofs.Superblocks.{plan_sealed, plan_unsealed}
use Rattle.layout.proofs.superblock.encode_superblock.Goals as goal

pub returns-then-row : goal.returns-then-row
returns-then-row c =
    plan_sealed c.args.superblock.now c.encode_front.new.into c.seal.new.row c.version.ensures.fits.few
    (sym (ap (λ (r : Row). r.sealed) (c.row.ensures.value ∙ ap row c.version.ensures.value)) ∙ c.if-row.true)
    c.encode_front.ensures c.seal.ensures.sealed c.seal.ensures.body

pub returns-else-row : goal.returns-else-row
returns-else-row c =
    plan_unsealed c.args.superblock.now c.encode_front.new.into
    (sym (ap (λ (r : Row). r.sealed) (c.row.ensures.value ∙ ap row c.version.ensures.value)) ∙ c.if-row.false)
    c.encode_front.ensures
