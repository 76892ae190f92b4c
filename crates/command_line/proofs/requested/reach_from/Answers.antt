use Rattle.command_line.proofs.Names.{rules, codes, refl, found_of, rows_of, IsNumberOption}
use Rattle.command_line.proofs.Getters.{given, held}
use Rattle.command_line.proofs.Lacking.{lacking, wrong}
use Rattle.command_line.proofs.requested.reach_from.Goals as goal

pub returns-in_err-image-clause-none : goal.returns-in_err-image-clause-none
returns-in_err-image-clause-none c = λ _. lacking (codes "reach") (codes "IMAGE") (found_of c.args.inner.now) _ refl c.get_str.ensures
    (search rules)

pub returns-in_err-shows-clause-none : goal.returns-in_err-shows-clause-none
returns-in_err-shows-clause-none c = λ _. wrong (codes "reach") (codes "shows") (rows_of (found_of c.args.inner.now)) _ _ refl
    (c.number_of.ensures.none (search rules))

pub returns-in_err-to-clause-none : goal.returns-in_err-to-clause-none
returns-in_err-to-clause-none c = λ _. wrong (codes "reach") (codes "to") (rows_of (found_of c.args.inner.now)) _ _ refl
    (c.number_of-2.ensures.none (search rules))

pub returns-clause-named : goal.returns-clause-named
returns-clause-named c = λ numbers trusts. (
  refl,
  given (found_of c.args.inner.now) (codes "IMAGE") c.get_str.result c.in_ok-image.image c.get_str.ensures (search rules),
  numbers,
  c.flag_of-reads.ensures,
  held (IsNumberOption (rows_of (found_of c.args.inner.now)) (codes "shows")) c.number_of.result c.in_ok-shows.shows
      c.number_of.ensures.named (search rules),
  held (IsNumberOption (rows_of (found_of c.args.inner.now)) (codes "to")) c.number_of-2.result c.in_ok-to.to c.number_of-2.ensures.named
      (search rules),
  trusts,
  c.flag_of.ensures,
)
