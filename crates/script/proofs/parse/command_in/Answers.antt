use Rattle.std.proofs.Common.{refl, sym, ◌∙◌, arith}
use Rattle.script.proofs.Commands.{command_found, no_arguments, words_left_over}
use Rattle.script.proofs.parse.command_in.Goals as goal

pub returns-in_err-command-clause-none : goal.returns-in_err-command-clause-none
returns-in_err-command-clause-none c = rw c.from_residual-in_err-command.ensures
    (no_arguments _ _ _ _ (sym c.new-words.ensures ∙ c.in_ok-keyword.ensures.found) refl c.in_err-command.ensures)

pub returns-then-is_empty-clause-found : goal.returns-then-is_empty-clause-found
returns-then-is_empty-clause-found c =
    command_found _ _ _ _ _ _ (sym c.new-words.ensures ∙ c.in_ok-keyword.ensures.found) refl c.in_ok-command.ensures (grind arith)

pub returns-else-is_empty-clause-none : goal.returns-else-is_empty-clause-none
returns-else-is_empty-clause-none c =
    words_left_over _ _ _ _ _ _ (sym c.new-words.ensures ∙ c.in_ok-keyword.ensures.found) refl c.in_ok-command.ensures (grind arith)
