use Rattle.std.proofs.Common.{List, ℕ, [], ◌∷◌, ap, refl, sym, ◌∙◌}
use Rattle.script.proofs.LineFaults.{empty_list}
use Rattle.script.proofs.line_fault.why_bad.Goals as goal

pub returns-then-is_empty : goal.returns-then-is_empty
returns-then-is_empty c = (
  [],
  c.next.new.self,
  sym c.new-words.ensures ∙ c.in-Some.ensures ∙ ap (λ (w : List ℕ). w ∷ c.next.new.self)
      (empty_list _ (sym c.is_empty.ensures ∙ c.if-is_empty.true)),
  refl,
)
