use Rattle.std.proofs.Common.{length}
use Rattle.layout.proofs.SealedSectors.{sector_found, sector_only}
use Rattle.layout.proofs.sealed.sector.decode_sector.Goals as goal

pub returns-then-is_sealed-clause-found : goal.returns-then-is_sealed-clause-found
returns-then-is_sealed-clause-found c = λ blank.
    sector_found c.args.bytes.now c.read_numbers.new.into (length c.args.into.now) c.requires.size c.read_numbers.ensures.size
    c.requires.numbers
    c.read_numbers.ensures.numbers (c.are_zeros.ensures.0 blank) (c.is_sealed.ensures.0 c.if-is_sealed.true)

pub returns-then-is_sealed-clause-only : goal.returns-then-is_sealed-clause-only
returns-then-is_sealed-clause-only c = λ ns len fits e.
    let only =
    sector_only c.args.bytes.now c.read_numbers.new.into ns (length c.args.into.now) c.requires.size c.read_numbers.ensures.size
    c.requires.numbers
    c.read_numbers.ensures.numbers c.read_numbers.ensures.fits len fits e in
    (c.are_zeros.ensures.1 only.blank, only.numbers)

pub returns-else-is_sealed-clause-only : goal.returns-else-is_sealed-clause-only
returns-else-is_sealed-clause-only c = λ ns len fits e.
    let only =
    sector_only c.args.bytes.now c.read_numbers.new.into ns (length c.args.into.now) c.requires.size c.read_numbers.ensures.size
    c.requires.numbers
    c.read_numbers.ensures.numbers c.read_numbers.ensures.fits len fits e in
    (c.is_sealed.ensures.1 only.seal, only.numbers)
