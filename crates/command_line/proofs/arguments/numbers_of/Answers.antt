use Rattle.command_line.proofs.Names.{rules, inr, found_of, rows_of, texts_of}
use Rattle.command_line.proofs.Getters.{given_all, missing_all, numbers_given, numbers_not_given}
use Rattle.command_line.proofs.arguments.numbers_of.Goals as goal

pub returns-in-Some-clause-named : goal.returns-in-Some-clause-named
returns-in-Some-clause-named c = numbers_given (rows_of (found_of c.args.inner.now)) c.args.name.now (texts_of c.in-Some.words.now)
    c.numbers_in.result
    (given_all (found_of c.args.inner.now) c.args.name.now c.get_raw.result c.in-Some.words c.get_raw.ensures (search rules))
    c.numbers_in.ensures.named

pub returns-in-Some-clause-none : goal.returns-in-Some-clause-none
returns-in-Some-clause-none c = numbers_not_given (rows_of (found_of c.args.inner.now)) c.args.name.now (texts_of c.in-Some.words.now)
    c.numbers_in.result
    (given_all (found_of c.args.inner.now) c.args.name.now c.get_raw.result c.in-Some.words c.get_raw.ensures (search rules))
    c.numbers_in.ensures.none

pub returns-in-None-clause-named : goal.returns-in-None-clause-named
returns-in-None-clause-named c = inr (
  missing_all (found_of c.args.inner.now) c.args.name.now c.get_raw.result c.get_raw.ensures
      (search rules),
  search rules,
)
