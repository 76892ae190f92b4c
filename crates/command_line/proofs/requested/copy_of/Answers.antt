use Rattle.command_line.proofs.Names.{rules, codes, inr, refl, found_of, rows_of}
use Rattle.command_line.proofs.Getters.{given}
use Rattle.command_line.proofs.Lacking.{lacking, same_twice}
use Rattle.command_line.proofs.requested.copy_of.Goals as goal

pub returns-in_err-image-clause-none : goal.returns-in_err-image-clause-none
returns-in_err-image-clause-none c = λ _. lacking (codes "copy") (codes "IMAGE") (found_of c.args.inner.now) _ refl c.get_str.ensures
    (search rules)

pub returns-in_err-new-clause-none : goal.returns-in_err-new-clause-none
returns-in_err-new-clause-none c = λ _. lacking (codes "copy") (codes "NEW") (found_of c.args.inner.now) _ refl c.get_str-2.ensures
    (search rules)

pub returns-then-eq-clause-none : goal.returns-then-eq-clause-none
returns-then-eq-clause-none c = λ _ has. inr (inr (same_twice (codes "copy") (codes "IMAGE") (rows_of (found_of c.args.inner.now))
    c.in_ok-image.image.now c.in_ok-new.new.now
    (given (found_of c.args.inner.now) (codes "IMAGE") c.get_str.result c.in_ok-image.image c.get_str.ensures (search rules))
    (given (found_of c.args.inner.now) (codes "NEW") c.get_str-2.result c.in_ok-new.new c.get_str-2.ensures (search rules))
    (search rules)))

pub returns-clause-named : goal.returns-clause-named
returns-clause-named c = (
  refl,
  given (found_of c.args.inner.now) (codes "IMAGE") c.get_str.result c.in_ok-image.image c.get_str.ensures (search rules),
  given (found_of c.args.inner.now) (codes "NEW") c.get_str-2.result c.in_ok-new.new c.get_str-2.ensures (search rules),
  search rules,
)
