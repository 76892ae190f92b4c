use Rattle.layout.proofs.Names.{ap, refl, subst, sym, List, ℕ, false≢true, role_number, PageHeader, IsPageHeader, page_header_bytes, page_header_from}
use Rattle.layout.proofs.Names.{page_header_numbers, sector_bytes}
use Rattle.std.proofs.Common.{◌≡◌, ◌∙◌}
use Rattle.layout.proofs.SealedHeaders.{page_found, page_read}
use Rattle.layout.proofs.sealed.page.decode_page_header.Goals as goal
use Rattle.layout.proofs.sealed.page.decode_page_header.Goals.{else-is_sector-via-then-is_sector+then-number-numbers+else-is_page_header}
use Rattle.layout.proofs.sealed.page.decode_page_header.Goals.{else-is_sector-via-then-is_sector+else-number-numbers}
use Rattle.layout.proofs.sealed.page.decode_page_header.Goals.{else-is_sector-via-else-is_sector}

abbrev role_in : PageHeader → ℕ
role_in g = role_number g.object.role

pub returns-then-is_page_header-clause-some : goal.returns-then-is_page_header-clause-some
unfolding page_header_bytes
returns-then-is_page_header-clause-some c =
    let ns : List ℕ = c.decode_sector-is_sector.new.into in
    let made = c.page_header_from-header.ensures in
    let read : ns ≡ page_header_numbers (page_header_from ns) =
    page_read ns c.decode_sector-is_sector.ensures.size (ap role_in (sym made) ∙ sym c.number.ensures ∙ c.if-number-numbers.true) in (
      c.is_page_header.ensures.0 c.if-is_page_header.true,
      c.decode_sector-is_sector.ensures.found c.if-is_sector.true ∙ ap sector_bytes read ∙ ap page_header_bytes (sym made),
    )

pub returns-else-is_sector-clause-none : goal.returns-else-is_sector-clause-none
unfolding page_header_bytes
returns-else-is_sector-clause-none c = λ h is fits e.
    let ns : List ℕ = c.decode_sector-is_sector.new.into in
    let made = c.page_header_from-header.ensures in
    let only = c.decode_sector-is_sector.ensures.only (page_header_numbers h) refl fits e in
    let found = page_found c.args.age h ns is only.1 in
    elim c.else-is_sector.branch [
      | else-is_sector-via-then-is_sector+then-number-numbers+else-is_page_header w ↦
          false≢true (sym w.if-is_page_header.false ∙ w.is_page_header.ensures.1
          (subst (IsPageHeader c.args.age) (sym (made ∙ found.0)) is))
      | else-is_sector-via-then-is_sector+else-number-numbers w ↦
          w.if-number-numbers.false (w.number.ensures ∙ ap role_in made ∙ found.1)
      | else-is_sector-via-else-is_sector w ↦ false≢true (sym w.if-is_sector.false ∙ only.0)
    ]
