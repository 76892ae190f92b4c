use Rattle.layout.proofs.Names.{ap, refl, sym, List, ℕ, false≢true, sealed_header_bytes, sealed_header_from, header_numbers, sector_bytes}
use Rattle.std.proofs.Common.{◌≡◌, ◌∙◌}
use Rattle.layout.proofs.SealedHeaders.{header_magic, header_read}
use Rattle.layout.proofs.sealed.header.decode_sealed_header.Goals as goal
use Rattle.layout.proofs.sealed.header.decode_sealed_header.Goals.{else-is_sector-via-then-is_sector+else-numbers-eq-HEADER_MAGIC}
use Rattle.layout.proofs.sealed.header.decode_sealed_header.Goals.{else-is_sector-via-else-is_sector}

pub returns-then-numbers-eq-HEADER_MAGIC-clause-some : goal.returns-then-numbers-eq-HEADER_MAGIC-clause-some
unfolding sealed_header_bytes
returns-then-numbers-eq-HEADER_MAGIC-clause-some c =
    let ns : List ℕ = c.decode_sector-is_sector.new.into in
    let read : ns ≡ header_numbers (sealed_header_from ns) = header_read ns c.decode_sector-is_sector.ensures.size
    c.if-numbers-eq-HEADER_MAGIC.true in
    c.decode_sector-is_sector.ensures.found c.if-is_sector.true ∙ ap sector_bytes read
    ∙ ap sealed_header_bytes (sym c.sealed_header_from.ensures)

pub returns-else-is_sector-clause-none : goal.returns-else-is_sector-clause-none
unfolding sealed_header_bytes
returns-else-is_sector-clause-none c = λ h fits e.
    let only = c.decode_sector-is_sector.ensures.only (header_numbers h) refl fits e in
    elim c.else-is_sector.branch [
      | else-is_sector-via-then-is_sector+else-numbers-eq-HEADER_MAGIC w ↦
          w.if-numbers-eq-HEADER_MAGIC.false (header_magic h c.decode_sector-is_sector.new.into only.1)
      | else-is_sector-via-else-is_sector w ↦ false≢true (sym w.if-is_sector.false ∙ only.0)
    ]
