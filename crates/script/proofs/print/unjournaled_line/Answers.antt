use Rattle.script.proofs.Names.{common_steps, arith, digits, ap, sym, codes, decimal, Unjournaled, unjournaled_number}
use Rattle.std.proofs.Common.{◌++◌, ◌∙◌}
use Rattle.script.proofs.print.unjournaled_line.Goals as goal

pub returns-in-NotPage-clause-text : goal.returns-in-NotPage-clause-text
unfolding digits
returns-in-NotPage-clause-text c = c.new.ensures ∙ ap (λ (why : Unjournaled). codes "not journaled " ++ decimal (unjournaled_number why))
    (sym c.in-NotPage.is)

pub returns-in-Renewed-clause-text : goal.returns-in-Renewed-clause-text
unfolding digits
returns-in-Renewed-clause-text c = grind (arith, common_steps)
