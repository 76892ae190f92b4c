use Rattle.std.proofs.Common.{◌∙◌, List, ap, subst, ℕ}
use Rattle.model.specs.Text.{line_of}
use Rattle.script.specs.Writing.{Writes}
use Rattle.shell.proofs.Listed.{end_other}
use Rattle.shell.proofs.listing.print_end.Goals as goal

pub returns-in_default : goal.returns-in_default
returns-in_default g c = record {
  writes = subst (λ (text : List ℕ). Writes (g.W.Output.written c.args.writer.now) (g.W.Output.written c.print_line.new.writer)
      c.print_line.result text)
      (ap line_of c.refusal_line.ensures.text ∙ end_other c.args.refusal c.in_default.not-BadNumber) c.print_line.ensures.writes;
  none_waits = c.print_line.ensures.none_waits;
}
