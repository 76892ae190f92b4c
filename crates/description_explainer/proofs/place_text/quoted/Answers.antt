use Rattle.description_explainer.proofs.Names.{string_bytes, false, subst, sym, ap, true≢false, IsOneLine, IfOk-weaker, IfSome, Global, String, debug_str}
use Rattle.std.proofs.Common.{◌≡◌, ◌∙◌}
use Rattle.description_explainer.proofs.OneLine.{breaks, quoted_line, quotes_line}
use Rattle.description_explainer.proofs.place_text.quoted.Goals as goal

pub returns-then-contains : goal.returns-then-contains
returns-then-contains c =
    let broken : breaks (string_bytes c.in_ok-shown.shown) ≡ false → ⊥ = λ none. true≢false
    (sym c.if-contains.true ∙ c.contains.ensures.value ∙ ap breaks c.as_bytes.ensures.value ∙ none) in
    IfOk-weaker c.from_str.result _
    (λ (s : String Global). IfSome (debug_str c.args.key.now) (λ t. string_bytes s ≡ t) × IsOneLine (string_bytes s))
    (λ s is. (
      quoted_line c.args.key.now (string_bytes c.in_ok-shown.shown) broken c.in_ok-shown.ensures (string_bytes s),
      subst IsOneLine (sym is) quotes_line,
    ))
    c.from_str.ensures.ok
