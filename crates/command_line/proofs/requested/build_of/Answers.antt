use Rattle.command_line.proofs.Names.{rules, codes, refl, found_of}
use Rattle.command_line.proofs.Getters.{given}
use Rattle.command_line.proofs.Lacking.{lacking}
use Rattle.command_line.proofs.requested.build_of.Goals as goal

pub returns-in_err-description-clause-none : goal.returns-in_err-description-clause-none
returns-in_err-description-clause-none c = λ _. lacking (codes "build") (codes "DESCRIPTION") (found_of c.args.inner.now) _ refl
    c.get_str.ensures
    (search rules)

pub returns-in_err-image-clause-none : goal.returns-in_err-image-clause-none
returns-in_err-image-clause-none c = λ _. lacking (codes "build") (codes "IMAGE") (found_of c.args.inner.now) _ refl c.get_str-2.ensures
    (search rules)

pub returns-clause-named : goal.returns-clause-named
returns-clause-named c = (
  refl,
  c.flag_of-is_new.ensures,
  given (found_of c.args.inner.now) (codes "DESCRIPTION") c.get_str.result c.in_ok-description.description c.get_str.ensures (search rules),
  given (found_of c.args.inner.now) (codes "IMAGE") c.get_str-2.result c.in_ok-image.image c.get_str-2.ensures (search rules),
)
