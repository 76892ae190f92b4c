use Rattle.layout.proofs.Names.{ap, arith}
use Rattle.std.proofs.Common.{◌≡◌}
use Rattle.layout.specs.declared.version.Row.{Row}
use Rattle.layout.specs.Superblock.{version_number}
use Rattle.layout.proofs.Superblocks.{few_versions}
use Rattle.layout.proofs.version.Version.number.Goals as goal

pub returns-clause-most : goal.returns-clause-most
returns-clause-most c =
    let value : c.row.result.number ≡ version_number c.args.self = ap (λ (r : Row). r.number) c.row.ensures.value in
    let few = few_versions c.args.self in
    omega (arith, value, few)
