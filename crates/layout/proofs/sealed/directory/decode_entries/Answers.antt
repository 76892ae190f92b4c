use Rattle.layout.proofs.Names.{ap, arith, length, sym, ℕ, false≢true, length-replicate, length-take-le, entries_bytes, entry_numbers, sector_bytes}
use Rattle.std.proofs.Common.{replicate, ◌*◌, ◌∙◌}
use Rattle.layout.proofs.SealedEntries.{length_numbers, numbers_fit}
use Rattle.layout.proofs.SealedSectors.{seal_read}
use Rattle.layout.proofs.sealed.directory.decode_entries.Goals as goal

pub returns-then-not-decode_sector-clause-none : goal.returns-then-not-decode_sector-clause-none
unfolding entries_bytes
returns-then-not-decode_sector-clause-none c = λ es len fits e.
    let size =
    length_numbers es ∙ ap (λ (n : ℕ). 2 * n) len
    ∙ sym (length-take-le (2 * length c.args.into.now) (replicate 60 0) (omega (arith, c.requires.entries, length-replicate {A = ℕ} 60 0)))
    in
    let only = c.decode_sector.ensures.only (entry_numbers es) size (numbers_fit es fits) e in
    false≢true (sym c.if-not-decode_sector.true ∙ only.0)

pub returns-clause-some : goal.returns-clause-some
unfolding entries_bytes
returns-clause-some c = (
  c.decode_sector.ensures.found c.if-not-decode_sector.false ∙ ap sector_bytes c.take_entries.ensures,
  seal_read c.args.bytes.now c.sums_at.result c.requires.size c.sums_at.ensures,
)
