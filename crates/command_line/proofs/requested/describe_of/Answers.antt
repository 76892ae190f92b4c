use Rattle.command_line.proofs.Names.{rules, codes, refl, found_of, rows_of, AreSizes}
use Rattle.command_line.proofs.Getters.{given, held}
use Rattle.command_line.proofs.Lacking.{lacking}
use Rattle.command_line.proofs.requested.describe_of.Goals as goal

pub returns-in_err-image-clause-none : goal.returns-in_err-image-clause-none
returns-in_err-image-clause-none c = λ _. lacking (codes "describe") (codes "IMAGE") (found_of c.args.inner.now) _ refl c.get_str.ensures
    (search rules)

pub returns-clause-named : goal.returns-clause-named
returns-clause-named c = (
  refl,
  given (found_of c.args.inner.now) (codes "IMAGE") c.get_str.result c.in_ok-image.image c.get_str.ensures (search rules),
  held (AreSizes (rows_of (found_of c.args.inner.now))) c.sizes_of.result c.in_ok-sizes.sizes c.sizes_of.ensures.named (search rules),
)
