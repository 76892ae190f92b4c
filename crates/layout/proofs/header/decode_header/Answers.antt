use Rattle.layout.proofs.Names.{refl, sym, ap, subst, ℕ, arith, rules, false≢true, CheckpointHeader, zeros, IsHeader}
use Rattle.std.proofs.Common.{◌∙◌, ◌-◌}
use Rattle.layout.proofs.Headers.{five_read, header_stream, spelt_header}
use Rattle.layout.proofs.header.decode_header.Goals as goal
use Rattle.layout.proofs.header.decode_header.Goals.{else-magic-eq-HEADER_MAGIC-via-then-magic-eq-HEADER_MAGIC+then-is_blank+else-is_header}
use Rattle.layout.proofs.header.decode_header.Goals.{else-magic-eq-HEADER_MAGIC-via-then-magic-eq-HEADER_MAGIC+else-is_blank}
use Rattle.layout.proofs.header.decode_header.Goals.{else-magic-eq-HEADER_MAGIC-via-else-magic-eq-HEADER_MAGIC}

pub returns-then-is_header-clause-found : goal.returns-then-is_header-clause-found
returns-then-is_header-clause-found c = search (rules, five_read, header_stream)

pub returns-else-magic-eq-HEADER_MAGIC-clause-refused : goal.returns-else-magic-eq-HEADER_MAGIC-clause-refused
returns-else-magic-eq-HEADER_MAGIC-clause-refused c =
    let read = five_read c.args.bytes.now c.number_at-magic.result c.number_at-sequence.result c.number_at-generation.result
    c.number_at-entries.result
    c.number_at-age.result
    c.number_at-magic.ensures c.number_at-sequence.ensures c.number_at-generation.ensures c.number_at-entries.ensures
    c.number_at-age.ensures in
    let header : CheckpointHeader =
    record {
      sequence = c.number_at-sequence.result;
      generation = c.number_at-generation.result;
      entries = c.number_at-entries.result;
      age = c.number_at-age.result;
    } in (
      refl,
      λ h is e.
          let has = spelt_header c.args.room c.args.bytes.now _ c.number_at-magic.result header h
          (omega arith, (omega arith, (omega arith, (omega arith, (omega arith, tt))))) read is e in
          elim c.else-magic-eq-HEADER_MAGIC.branch [
            | else-magic-eq-HEADER_MAGIC-via-then-magic-eq-HEADER_MAGIC+then-is_blank+else-is_header w ↦
                false≢true (sym w.if-is_header.false ∙ w.is_header.ensures.1 (subst (IsHeader 0 c.args.room) (sym has.header_is) is))
            | else-magic-eq-HEADER_MAGIC-via-then-magic-eq-HEADER_MAGIC+else-is_blank w ↦
                false≢true (sym w.if-is_blank.false ∙ c.is_blank_from-is_blank.ensures.1
                (has.rest_is ∙ ap (λ (n : ℕ). zeros (n - 40)) (sym c.requires)))
            | else-magic-eq-HEADER_MAGIC-via-else-magic-eq-HEADER_MAGIC w ↦ w.if-magic-eq-HEADER_MAGIC.false has.magic_is
          ],
    )
