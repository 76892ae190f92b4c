use Rattle.command_line.proofs.Names.{rules, codes, refl, found_of, rows_of, IsCache}
use Rattle.command_line.proofs.Getters.{given, held}
use Rattle.command_line.proofs.Lacking.{lacking, wrong}
use Rattle.command_line.proofs.requested.shell_of.Goals as goal

pub returns-in_err-image-clause-none : goal.returns-in_err-image-clause-none
returns-in_err-image-clause-none c = λ _. lacking (codes "shell") (codes "IMAGE") (found_of c.args.inner.now) _ refl c.get_str.ensures
    (search rules)

pub returns-in_err-cache-clause-none : goal.returns-in_err-cache-clause-none
returns-in_err-cache-clause-none c = λ _. wrong (codes "shell") (codes "cache") (rows_of (found_of c.args.inner.now)) _ _ refl
    (c.cache_of.ensures.none (search rules))

pub returns-clause-named : goal.returns-clause-named
returns-clause-named c = (
  refl,
  held (IsCache (rows_of (found_of c.args.inner.now))) c.cache_of.result c.in_ok-cache.cache c.cache_of.ensures.named (search rules),
  given (found_of c.args.inner.now) (codes "IMAGE") c.get_str.result c.in_ok-image.image c.get_str.ensures (search rules),
)
