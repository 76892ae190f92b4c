-- An image of any version has at most one committed header.
use Rattle.std.proofs.Common.{◌≡◌, ◌∷◌, ◌∙◌, Bool, true, false, None, Some, ap, subst, sym, arith}
use Rattle.std.proofs.lemmas.Option.{same_Some}
use Rattle.device.specs.Disk.{Image}
use Rattle.header_slots.specs.Slots.{Slots}
use Rattle.header_slots.specs.Committed.{IsPair}
use Rattle.seal.specs.declared.sums.Sums.{Sums}
use Rattle.layout.specs.Committed.{Commits, CommitsIf, CommitsNoneIf, CommitsUnsealed, HasNoCounting, option_at}
use Rattle.layout.specs.Header.{header_bytes}
use Rattle.layout.specs.Version.{row}
use Rattle.layout.specs.declared.header.CheckpointHeader.{CheckpointHeader}
use Rattle.layout.specs.declared.sealed.header.SealedHeader.{SealedHeader}
use Rattle.layout.specs.declared.version.Version.{Version}
use Rattle.layout.specs.sealed.Header.{header_numbers}
use Rattle.layout.specs.sealed.Sector.{AreWords}
use Rattle.layout.proofs.Numbers.{AllFit}
use Rattle.layout.proofs.Headers.{fields, one_spelt}
use Rattle.layout.proofs.SealedSlots.{one_commits, one_slots}

words_fit : (h : SealedHeader) → AreWords (header_numbers h) → AllFit (0x4441_4548_534f_5245 ∷ fields h.header)
words_fit h fits = (
  omega arith,
  (fits 1 0 (omega arith), (fits 2 0 (omega arith), (fits 3 0 (omega arith), (fits 4 0 (omega arith), tt)))),
)

abbrev header_of : CheckpointHeader → Sums → Sums → SealedHeader
header_of header root directory = record { header = header; root = root; directory = directory }

header_is : (g h : SealedHeader) → g.header ≡ h.header → g.root ≡ h.root → g.directory ≡ h.directory → g ≡ h
header_is g h header root directory =
    ap (λ (it : CheckpointHeader). header_of it g.root g.directory) header ∙ ap (λ (it : Sums). header_of h.header it g.directory) root
    ∙ ap (λ (it : Sums). header_of h.header h.root it) directory

one_unsealed : (image : Image) (g h : SealedHeader) → CommitsUnsealed image g → CommitsUnsealed image h → g ≡ h
one_unsealed image g h a b =
    header_is g h
    (one_spelt g.header h.header (words_fit g a.fits) (words_fit h b.fits)
    (same_Some (header_bytes g.header) (header_bytes h.header) (sym a.spelt ∙ b.spelt)))
    (a.sums.root ∙ sym b.sums.root)
    (a.sums.directory ∙ sym b.sums.directory)

one_if : (b : Bool) (image : Image) (g h : SealedHeader) → CommitsIf b image g → CommitsIf b image h → g ≡ h
one_if true image g h = one_commits image g h
one_if false image g h = one_unsealed image g h

pub one_committed : (v : Version) (image : Image) (g h : SealedHeader) → Commits v image g → Commits v image h → g ≡ h
one_committed v = one_if (row v).sealed

none_if : (b : Bool) (image : Image) (h : SealedHeader) → CommitsNoneIf b image → CommitsIf b image h → ⊥
none_if true image h none has =
    let pair = has.opens.committed.pair in
    let found : IsPair has.slots h.header.sequence =
    record { positive = pair.positive; counts = pair.counts; neighbour = pair.neighbour } in
    none.2 h.header.sequence (subst (λ (s : Slots). IsPair s h.header.sequence) (one_slots image has.slots none.0 has.are none.1) found)
none_if false image h none has =
    let lost : None ≡ Some (header_bytes h.header) = sym (ap (option_at image) none) ∙ has.spelt in cc

-- if no header counts, none is committed
pub none_committed : (v : Version) (image : Image) (h : SealedHeader) → HasNoCounting v image → Commits v image h → ⊥
none_committed v = none_if (row v).sealed
