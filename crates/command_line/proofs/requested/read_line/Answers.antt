use Rattle.command_line.proofs.Names.{rules, map, err_from_is_err_and, subcommand_rows_of, NamesLine}
use Rattle.command_line.proofs.Answered.{named_by, unnamed}
use Rattle.command_line.proofs.Getters.{held}
use Rattle.command_line.proofs.Refused.{nothing_against, parse_refused, value_refused}
use Rattle.command_line.proofs.requested.read_line.Goals as goal

pub returns-in_err-matches-clause-refused : goal.returns-in_err-matches-clause-refused
returns-in_err-matches-clause-refused g c =
    let p = err_from_is_err_and c.from_residual.result c.from_residual.ensures.1 in
    rw (p.1, p.2) (parse_refused (map g.S.AsStr.text c.args.words.now) c.args.command.now c.in_err-matches.field-0.0 c.requires.0
    c.in_err-matches.ensures.passes c.in_err-matches.ensures.kinds)

pub returns-in_ok-error-in-None-clause-refused : goal.returns-in_ok-error-in-None-clause-refused
returns-in_ok-error-in-None-clause-refused g c = value_refused _ _ c.in_ok-error-in-None.ensures.kind
    (nothing_against _ _ c.requires.0 c.in_ok-matches.ensures.kinds) (unnamed _ _ _ c.requires.0 c.in_ok-matches.ensures.ok.2
    (c.in_ok-line.ensures.none (search rules)))

pub returns-in-Some-clause-named : goal.returns-in-Some-clause-named
returns-in-Some-clause-named g c = named_by _ _ _ c.requires.0 c.in_ok-matches.ensures.ok.2 _
    (held (NamesLine (subcommand_rows_of c.in_ok-matches.matches)) _ _ c.in_ok-line.ensures.named (search rules))
