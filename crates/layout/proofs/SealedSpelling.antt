-- Bytes encode at most one value.
use Rattle.layout.proofs.Names.{ℕ, List, [], length, get_or, drop, ap, refl, sym, arith, Entry, bursts_break, entries_bytes, entry_numbers}
use Rattle.layout.proofs.Names.{sealed_header_bytes, sealed_header_from, header_numbers, ClustersShowBursts, SectorsShowBursts, SpellOneSealedHeader}
use Rattle.layout.proofs.Names.{SpellOnePageHeader, SpellOneSector, SuperblocksShowBursts, page_header_bytes, page_header_from, page_header_numbers}
use Rattle.std.proofs.Common.{◌≡◌, ◌∷◌, ◌∙◌}
use Rattle.layout.proofs.SealedEntries.{entry_of, length_numbers, numbers_fit}
use Rattle.layout.proofs.SealedHeaders.{page_back}
use Rattle.layout.proofs.SealedSectors.{one_sector, sector_sealed}
use Rattle.layout.proofs.Superblocks.{superblock_sealed}

pub one_header : SpellOneSealedHeader
unfolding sealed_header_bytes
one_header g h fg fh e = ap sealed_header_from (one_sector (header_numbers g) (header_numbers h) refl (omega arith) fg fh e)

pub one_page_header : SpellOnePageHeader
unfolding page_header_bytes
one_page_header age g h ig ih fg fh e =
    sym (page_back age g ig) ∙ ap page_header_from (one_sector (page_header_numbers g) (page_header_numbers h) refl (omega arith) fg fh e)
    ∙ page_back age h ih

-- lists of entries with the same numbers are equal
one_list : (ds es : List Entry) → entry_numbers ds ≡ entry_numbers es → ds ≡ es
one_list [] [] e = refl
one_list [] (x ∷ es) e = absurd (omega (arith, ap length e))
one_list (d ∷ ds) [] e = absurd (omega (arith, ap length e))
one_list (d ∷ ds) (x ∷ es) e =
    ap (λ (o : ℕ). entry_of o d.slot ∷ ds) (ap (λ (ns : List ℕ). get_or ns 0 0) e)
    ∙ ap (λ (s : ℕ). entry_of x.object s ∷ ds) (ap (λ (ns : List ℕ). get_or ns 1 0) e)
    ∙ ap (λ (rest : List Entry). x ∷ rest) (one_list ds es (ap (λ (ns : List ℕ). drop 2 ns) e))

pub one_directory_sector : SpellOneSector
unfolding entries_bytes
one_directory_sector ds es len few fd fe e =
    let lens : length (entry_numbers ds) ≡ length (entry_numbers es) = omega (arith, length_numbers ds, length_numbers es, len) in
    one_list ds es (one_sector (entry_numbers ds) (entry_numbers es) lens (omega (arith, length_numbers es, few)) (numbers_fit ds fd)
    (numbers_fit es fe) e)

pub sectors_show : SectorsShowBursts
sectors_show i x y ms ns rx ry burst ex ey = bursts_break i x y rx ry burst (sector_sealed x ms ex) (sector_sealed y ns ey)

pub superblocks_show : SuperblocksShowBursts
superblocks_show i x y p q rx ry burst sp sq ex ey =
    bursts_break i x y rx ry burst (superblock_sealed x p sp ex) (superblock_sealed y q sq ey)

pub clusters_show : ClustersShowBursts
clusters_show i x y m n rx ry burst cx cy = bursts_break i x y rx ry burst cx.seal cy.seal
