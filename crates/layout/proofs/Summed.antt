-- The sums of a page's frame.
use Rattle.layout.proofs.Names.{ℕ, Bool, List, [], length, take, drop, true, false, sym, ap, refl, arith, subst, take_at, take-take, append_assoc, take_all}
use Rattle.layout.proofs.Names.{zeros, front_bytes, front_numbers, words_bytes, page_frame_bytes, Frame, ObjectHeader, PageHeader, Sums, page_header_bytes}
use Rattle.layout.proofs.Names.{page_header_numbers, role_number, sector_bytes, sums_bytes, sums_of, with_seal, Shape, shape_bytes, Image, Geometry, IsShapeFor}
use Rattle.layout.proofs.Names.{cases_lt, inl, inr, false≢true, frame_bytes, Result, OnOk, sectors_from, HasZerosBeside, shape_end, le-ltb, node_frame_bytes}
use Rattle.layout.proofs.Names.{drop_all, shaped_at, cases_Bool, on_ok_weaker, IsPageShape, blanked, IfSummed, IsSummed, IsSummedIf}
use Rattle.std.specs.Prelude.{if◌then◌else◌}
use Rattle.std.proofs.Common.{◌≡◌, ◌-◌, ◌*◌, ◌≤◌, ◌∷◌, ◌++◌, ◌∙◌}
use Rattle.layout.proofs.Blanked.{blanked_front, blanked_page, blanked_same, front_long, page_front}
use Rattle.layout.proofs.Blocks.{page_whole}
use Rattle.layout.proofs.Frames.{front_bytes_are, front_stream}
use Rattle.layout.proofs.Numbers.{stream}
use Rattle.layout.proofs.Pages.{words_stream}

-- ---- the header sector of a page

-- the sums in a header sector, and the zeros after them
abbrev sums_after : Sums → List ℕ
sums_after s = words_bytes (s.a ∷ s.b ∷ s.c ∷ []) ++ zeros 432

-- a header sector begins with the front of the frame
header_is : (h : PageHeader) → page_header_bytes h ≡ with_seal (front_bytes h.object ++ sums_after h.words)
unfolding page_header_bytes sector_bytes
header_is h =
    let sums : List ℕ = h.words.a ∷ h.words.b ∷ h.words.c ∷ [] in
    let front : words_bytes (page_header_numbers h) ≡ front_bytes h.object ++ words_bytes sums =
    words_stream (page_header_numbers h) ∙ sym (front_stream (role_number h.object.role) h.object (stream sums []))
    ∙ ap (λ (b : List ℕ). front_numbers (role_number h.object.role) h.object ++ b) (sym (words_stream sums))
    ∙ ap (λ (b : List ℕ). b ++ words_bytes sums) (sym (front_bytes_are h.object)) in
    ap with_seal (ap (λ (b : List ℕ). b ++ zeros 432) front ∙ append_assoc (front_bytes h.object) (words_bytes sums) (zeros 432))

header_front : (h : PageHeader) → take 32 (page_header_bytes h) ≡ front_bytes h.object
unfolding with_seal
header_front h =
    let front : List ℕ = front_bytes h.object in
    let rest : List ℕ = sums_after h.words in
    let seal : List ℕ = sums_bytes (sums_of (front ++ rest)) in
    ap (take 32) (header_is h ∙ append_assoc front rest seal) ∙ take_at front (rest ++ seal) 32 (front_long h.object)

-- a block that begins with a header sector begins with the front of the frame
pub sealed_front : (bytes : List ℕ) (h : PageHeader) → take 512 bytes ≡ page_header_bytes h → take 32 bytes ≡ front_bytes h.object
sealed_front bytes h first = sym (take-take 32 512 bytes (omega arith)) ∙ ap (take 32) first ∙ header_front h

abbrev header_with : ObjectHeader → Sums → PageHeader
header_with object words = record { object = object; words = words }

-- the header sector of a summed block has the frame's header, and the sums of the words
pub summed_header : (bytes : List ℕ) (f : Frame) → IsSummed bytes → 32 ≤ length bytes → blanked true bytes ≡ page_frame_bytes f →
    take 512 bytes ≡ page_header_bytes (header_with f.header (sums_of (drop 512 bytes)))
summed_header bytes f is long same =
    let front : front_bytes is.header.object ≡ front_bytes f.header =
    sym (sealed_front bytes is.header is.first) ∙ sym (blanked_front true bytes long) ∙ ap (take 32) same ∙ page_front f in
    is.first ∙ header_is is.header ∙ ap (λ (b : List ℕ). with_seal (b ++ sums_after is.header.words)) front
    ∙ ap (λ (s : Sums). with_seal (front_bytes f.header ++ sums_after s)) is.words ∙
    sym (header_is (header_with f.header (sums_of (drop 512 bytes))))

-- ---- sums are put into a block

-- what is summed if a test holds
summed_by : (has_sums : Bool) (bytes : List ℕ) → (has_sums ≡ true → IsSummed bytes) → IsSummedIf has_sums bytes
summed_by true bytes is = is refl
summed_by false bytes is = tt

module _ (s : Shape) (h : ObjectHeader) (old new : List ℕ) (has : s.has_sums ≡ true) (page : IsPageShape s) (size : length old ≡ 4608)
    (first : take 512 new ≡ page_header_bytes (header_with h (sums_of (drop 512 old)))) (words : drop 512 new ≡ drop 512 old) where
  pub put_frame_stays : length new ≡ 4608 → take 32 old ≡ front_bytes h → shape_bytes s new ≡ shape_bytes s old
  put_frame_stays long front =
      let same : blanked true new ≡ blanked true old =
      blanked_same new old (sealed_front new (header_with h (sums_of (drop 512 old))) first ∙ sym front) words in
      page_whole s new page long ∙ subst (λ (b : Bool). blanked b new ≡ blanked b old) (sym has) same ∙ sym (page_whole s old page size)

  pub put_is_summed : IfSummed s new
  put_is_summed = summed_by s.has_sums new (λ _. record {
    header = header_with h (sums_of (drop 512 old));
    first = first;
    words = ap sums_of (sym words);
  })

pub none_summed : (s : Shape) (bytes : List ℕ) → s.has_sums ≡ false → IfSummed s bytes
none_summed s bytes none = summed_by s.has_sums bytes (λ has. absurd (false≢true (sym none ∙ has)))

-- ---- a frame is written with its sums

-- only pages have sums
pub sums_are_pages : (g : Geometry) (n : ℕ) (s : Shape) → IsShapeFor g n s → s.has_sums ≡ true → g.nodes ≤ n
sums_are_pages g n s fits has = elim (cases_lt n g.nodes) [
  | inl lt ↦ absurd (false≢true (sym (fits.node lt).2 ∙ has))
  | inr le ↦ le
]

-- the page's block begins with the frame's front
pub frame_front : (g : Geometry) (n : ℕ) (s : Shape) (f : Frame) (block : List ℕ) → IsShapeFor g n s → length block ≡ 4608 →
    shape_bytes s block ≡ frame_bytes g n f → s.has_sums ≡ true → take 32 block ≡ front_bytes f.header
frame_front g n s f block fits size is has =
    let le = sums_are_pages g n s fits has in
    let page : frame_bytes g n f ≡ page_frame_bytes f = ap (λ (b : Bool). if b then node_frame_bytes f else page_frame_bytes f)
    (le-ltb n g.nodes le) in
    sym (blanked_front s.has_sums block (omega (arith, size)))
    ∙ ap (take 32) (sym (page_whole s block (fits.page le) size) ∙ is ∙ page) ∙ page_front f

-- the first n bytes of a block of a page are all of them
whole_block : (s : Shape) (block : List ℕ) → s.sectors ≡ 9 → length block ≡ 4608 → take (512 * s.sectors) block ≡ block
whole_block s block nine size = take_all (512 * s.sectors) block (omega (arith, nine, size))

-- sums leave zeros beside the frame
pub zeros_stay : (g : Geometry) (n : ℕ) (s : Shape) (old new : List ℕ) → IsShapeFor g n s → (s.has_sums ≡ false → new ≡ old) →
    length new ≡ 4608 → HasZerosBeside s (take (512 * s.sectors) old) → HasZerosBeside s (take (512 * s.sectors) new)
unfolding zeros
zeros_stay g n s old new fits plain size beside = elim (cases_Bool s.has_sums) [
  | inl has ↦
      let page = fits.page (sums_are_pages g n s fits has) in
      let all = whole_block s new page.0 size in
      let none : length (take (512 * s.sectors) new) - shape_end s ≡ 0 = omega (arith, ap length all, size, page.2) in
      record {
        before = subst (λ (k : ℕ). take k (take (512 * s.sectors) new) ≡ zeros k) (sym page.1) refl;
        behind = drop_all (shape_end s) (take (512 * s.sectors) new) (omega (arith, ap length all, size, page.2))
            ∙ ap zeros (sym none);
      }
  | inr none ↦ subst (λ (b : List ℕ). HasZerosBeside s (take (512 * s.sectors) b)) (sym (plain none)) beside
]

-- if a summed block was written to the image, the block there is summed
pub summed_there : {T E : Type 0} (result : Result T E) (image : Image) (at : ℕ) (s : Shape) (block : List ℕ) →
    (s.has_sums ≡ true → IsPageShape s) → length block ≡ 4608 → OnOk result (sectors_from image at s.sectors ≡ take (512 * s.sectors) block)
    → IfSummed s block → OnOk result (IfSummed s (sectors_from image at s.sectors))
summed_there {T} {E} result image at s block page size written is =
    let same : s.has_sums ≡ true → take (512 * s.sectors) block ≡ block = λ has. whole_block s block (page has).0 size in
    let first : IfSummed s (take (512 * s.sectors) block) = elim (cases_Bool s.has_sums) [
      | inl has ↦ subst (IfSummed s) (sym (same has)) is
      | inr none ↦ none_summed s (take (512 * s.sectors) block) none
    ] in
    on_ok_weaker result (λ e. subst (IfSummed s) (sym e) first) written

-- if a block of a page was written to the image, so was the frame in it
pub page_there : {T E : Type 0} (result : Result T E) (image : Image) (at : ℕ) (s : Shape) (f : Frame) (old new : List ℕ) → IsPageShape s →
    length old ≡ 4608 → old ≡ page_frame_bytes f → shape_bytes s new ≡ shape_bytes s old → OnOk result (sectors_from image at 9 ≡ new) →
    OnOk result (shaped_at image at s ≡ page_frame_bytes f)
page_there {T} {E} result image at s f old new page size is same written =
    on_ok_weaker result (λ e. ap (λ (k : ℕ). shape_bytes s (sectors_from image at k)) page.0 ∙ ap (shape_bytes s) e ∙ same
    ∙ page_whole s old page size ∙ ap (blanked s.has_sums) is ∙ blanked_page s.has_sums f) written

pub page_summed_there : {T E : Type 0} (result : Result T E) (image : Image) (at : ℕ) (s : Shape) (block : List ℕ) → IsPageShape s →
    OnOk result (sectors_from image at 9 ≡ block) → IfSummed s block → OnOk result (IfSummed s (sectors_from image at s.sectors))
page_summed_there {T} {E} result image at s block page written is =
    on_ok_weaker result (λ e. subst (IfSummed s) (sym (ap (sectors_from image at) page.0 ∙ e)) is) written
