use Rattle.queries.proofs.Names.{Some, sym, subst, none-some, same_Some, table_view, Explains}
use Rattle.std.proofs.Common.{◌∙◌}
use Rattle.queries.proofs.explaining.explained.Goals as goal

pub returns : goal.returns
returns c =
    let found = subst (λ place. Explains (table_view c.in-Ok.table) place) c.in-Some.is c.in_ok-explain.ensures in (
      (λ table is.
          let here = same_Some table (table_view c.in-Ok.table) (sym is ∙ c.in-Ok.ensures.ok) in
          (c.in-Some.place, subst (λ ms. Explains ms (Some c.in-Some.place)) (sym here) found, c.in_ok-line-in-Some.ensures)),
      λ none. absurd (none-some (table_view c.in-Ok.table) (sym none ∙ c.in-Ok.ensures.ok)),
    )
