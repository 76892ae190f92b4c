use Rattle.queries.proofs.Names.{ℕ, List, ap, arith, codes, length, string_bytes, subst, take, String, Global, IfOk-weaker, IsSyntaxLineAt, position_from}
use Rattle.queries.proofs.Names.{position_text, span_start}
use Rattle.std.proofs.Common.{◌≡◌, ◌∙◌, ◌≤◌, ◌++◌}
use Rattle.queries.proofs.explaining.syntax_line.Goals as goal

pub returns : goal.returns
returns c =
    let at = c.in-Some.span.start in
    let why = c.why_not_toml-why.result.now in
    let within : at ≤ length c.args.text.now = omega (arith, c.requires.0, c.requires.1, c.in-Some.ensures.range.0) in
    let here : c.position_after-line.result ≡ position_from 1 1 (take at c.args.text.now) =
    c.position_after-line.ensures ∙ ap (λ (bytes : List ℕ). position_from 1 1 (take at bytes)) c.as_bytes.ensures.value in
    IfOk-weaker c.format.result _
    (λ (line : String Global). IsSyntaxLineAt (span_start c.args.error.now) c.args.text.now (string_bytes line))
    (λ s is. subst (λ (n : ℕ). IsSyntaxLineAt n c.args.text.now (string_bytes s)) c.in-Some.ensures.range.0 (
      why,
      within,
      c.why_not_toml-why.ensures,
      is ∙ ap (λ (p : ℕ × ℕ). position_text p (why ++ codes " (bad description)"))
          here,
    ))
    c.format.ensures.ok
