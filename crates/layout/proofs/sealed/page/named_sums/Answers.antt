use Rattle.layout.proofs.Names.{ℕ, List, PageHeader, Sums, ap, sym, arith, false≢true, IsTrue}
use Rattle.std.proofs.Common.{◌≡◌, ◌∙◌, Some}
use Rattle.layout.proofs.SummedPages.{header_read, header_sector, sums_named}
use Rattle.layout.proofs.sealed.page.named_sums.Goals as goal
use Rattle.layout.proofs.sealed.page.named_sums.Goals.{else-is_sector-via-then-is_sector+else-numbers-le-LAST_ROLE}
use Rattle.layout.proofs.sealed.page.named_sums.Goals.{else-is_sector-via-else-is_sector}

pub returns-then-numbers-le-LAST_ROLE-clause-some : goal.returns-then-numbers-le-LAST_ROLE-clause-some
returns-then-numbers-le-LAST_ROLE-clause-some c =
    sums_named c.args.first.now c.decode_sector-is_sector.new.into c.page_header_from.result.words c.decode_sector-is_sector.ensures.size
    (omega (arith, c.if-numbers-le-LAST_ROLE.true)) (c.decode_sector-is_sector.ensures.found c.if-is_sector.true)
    (ap (λ (h : PageHeader). h.words) c.page_header_from.ensures)

pub returns-then-numbers-le-LAST_ROLE-clause-only : goal.returns-then-numbers-le-LAST_ROLE-clause-only
returns-then-numbers-le-LAST_ROLE-clause-only c = λ h fit is.
    let ns : List ℕ = c.decode_sector-is_sector.new.into in
    let only = header_sector (λ (ms : List ℕ). IsTrue c.decode_sector-is_sector.result × (ns ≡ ms)) c.args.first.now h fit is
    c.decode_sector-is_sector.ensures.only in
    ap Some (ap (λ (h : PageHeader). h.words) c.page_header_from.ensures ∙ (header_read h ns only.1).words)

pub returns-else-is_sector-clause-only : goal.returns-else-is_sector-clause-only
returns-else-is_sector-clause-only c = λ h fit is.
    let ns : List ℕ = c.decode_sector-is_sector.new.into in
    let only = header_sector (λ (ms : List ℕ). IsTrue c.decode_sector-is_sector.result × (ns ≡ ms)) c.args.first.now h fit is
    c.decode_sector-is_sector.ensures.only in
    let read = header_read h ns only.1 in
    elim c.else-is_sector.branch [
      | else-is_sector-via-then-is_sector+else-numbers-le-LAST_ROLE w ↦
          absurd (omega (arith, read.role, w.if-numbers-le-LAST_ROLE.false))
      | else-is_sector-via-else-is_sector w ↦ absurd (false≢true (sym w.if-is_sector.false ∙ only.0))
    ]
