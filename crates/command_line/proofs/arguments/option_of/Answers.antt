use Rattle.command_line.proofs.Names.{rules, found_of, IsNumber}
use Rattle.command_line.proofs.Getters.{given, held}
use Rattle.command_line.proofs.arguments.option_of.Goals as goal

pub returns-in_err-number-in-Some-clause-none : goal.returns-in_err-number-in-Some-clause-none
returns-in_err-number-in-Some-clause-none c = λ _. (
  c.in-Some.word.now,
  given (found_of c.args.inner.now) c.args.name.now c.get_str.result c.in-Some.word c.get_str.ensures (search rules),
  c.number_in.ensures.none (search rules),
)

pub returns-in_ok-number-in-Some-clause-named : goal.returns-in_ok-number-in-Some-clause-named
returns-in_ok-number-in-Some-clause-named c = (
  c.in-Some.word.now,
  given (found_of c.args.inner.now) c.args.name.now c.get_str.result c.in-Some.word c.get_str.ensures (search rules),
  held (IsNumber c.args.least c.args.most c.in-Some.word.now) c.number_in.result c.in_ok-number-in-Some.number c.number_in.ensures.named
      (search rules),
)
