use Rattle.command_line.proofs.Names.{rules, codes, refl, found_of, rows_of, IsNumberOption, IsCache}
use Rattle.command_line.proofs.Getters.{given, held}
use Rattle.command_line.proofs.Lacking.{lacking, wrong}
use Rattle.command_line.proofs.requested.run_of.Goals as goal

pub returns-in_err-image-clause-none : goal.returns-in_err-image-clause-none
returns-in_err-image-clause-none c = λ _. lacking (codes "run") (codes "IMAGE") (found_of c.args.inner.now) _ refl c.get_str.ensures
    (search rules)

pub returns-in_err-word-clause-none : goal.returns-in_err-word-clause-none
returns-in_err-word-clause-none c = λ _. lacking (codes "run") (codes "SCRIPT") (found_of c.args.inner.now) _ refl c.get_str-2.ensures
    (search rules)

pub returns-in_err-cache-clause-none : goal.returns-in_err-cache-clause-none
returns-in_err-cache-clause-none c = λ _. wrong (codes "run") (codes "cache") (rows_of (found_of c.args.inner.now)) _ _ refl
    (c.cache_of.ensures.none (search rules))

pub returns-in_err-stop_after-clause-none : goal.returns-in_err-stop_after-clause-none
returns-in_err-stop_after-clause-none c = λ _. wrong (codes "run") (codes "stop-after") (rows_of (found_of c.args.inner.now)) _ _ refl
    (c.number_of.ensures.none (search rules))

pub returns-clause-named : goal.returns-clause-named
returns-clause-named c = (
  refl,
  held (IsCache (rows_of (found_of c.args.inner.now))) c.cache_of.result c.in_ok-cache.cache c.cache_of.ensures.named (search rules),
  c.flag_of-trace.ensures,
  c.flag_of-strict.ensures,
  c.flag_of-saves.ensures,
  held (IsNumberOption (rows_of (found_of c.args.inner.now)) (codes "stop-after")) c.number_of.result c.in_ok-stop_after.stop_after
      c.number_of.ensures.named
      (search rules),
  given (found_of c.args.inner.now) (codes "IMAGE") c.get_str.result c.in_ok-image.image c.get_str.ensures (search rules),
  c.in_ok-word.word.now,
  given (found_of c.args.inner.now) (codes "SCRIPT") c.get_str-2.result c.in_ok-word.word c.get_str-2.ensures (search rules),
  c.script_of-script.ensures,
)
