use Rattle.command_line.proofs.Names.{rules, codes, refl, found_of}
use Rattle.command_line.proofs.Getters.{given}
use Rattle.command_line.proofs.Lacking.{lacking}
use Rattle.command_line.proofs.requested.explain_of.Goals as goal

pub returns-in_err-file-clause-none : goal.returns-in_err-file-clause-none
returns-in_err-file-clause-none c = λ _. lacking (codes "explain") (codes "FILE") (found_of c.args.inner.now) _ refl c.get_str.ensures
    (search rules)

pub returns-clause-named : goal.returns-clause-named
returns-clause-named c = (
  refl,
  given (found_of c.args.inner.now) (codes "FILE") c.get_str.result c.in_ok-file.file c.get_str.ensures (search rules),
  c.flag_of-json.ensures,
)
