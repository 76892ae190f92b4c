use Rattle.description_explainer.proofs.Names.{ℕ, ap, codes, decimal, string_bytes, Global, String, IfOk-weaker, fault_number, BuildFault, IsExplanation}
use Rattle.description_explainer.proofs.Names.{IsOneLine, subst, sym, IsPlaceText}
use Rattle.std.proofs.Common.{◌∙◌, ◌++◌}
use Rattle.description_explainer.proofs.OneLine.{explanation_line, unbroken}
use Rattle.description_explainer.proofs.text.explanation.Goals as goal

pub returns : goal.returns
returns c =
    let at = c.deref.result.now in
    let what = c.on_one_line.result.now in
    let placed : IsPlaceText c.args.place.now at = rw c.deref.ensures c.in_ok-at.ensures in
    let number = c.number.ensures ∙ ap (λ (f : BuildFault). fault_number f) c.fault.ensures in
    IfOk-weaker c.line.result _ (λ (text : String Global). IsExplanation c.args.place.now (string_bytes text))
    (λ s is. (
      at,
      placed,
      what,
      subst IsOneLine (sym is) (explanation_line c.args.place.now at what _ placed (unbroken what c.on_one_line.ensures)),
      is ∙ ap (λ (n : ℕ). at ++ (what ++ (codes " (bad description " ++ (decimal n ++ codes ")")))) number,
    ))
    c.line.ensures
