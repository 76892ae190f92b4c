-- Damage to clusters and page frames.
use Rattle.damage_laws.proofs.Names.{ℕ, List, [], length, take, drop, zero, suc, ap, refl, subst, sym, inl, inr, arith, cases_lt, drop_at, take_at, Image}
use Rattle.damage_laws.proofs.Names.{IsWhole, sectors_from, PageHeader, IsCluster, page_header_bytes, page_header_from, page_header_numbers, IsSummed}
use Rattle.damage_laws.proofs.Names.{length_sector, one_sector, clusters_show, sectors_show, DifferInBurst, IsRow, Fit, sums_of, Sums, bursts_change}
use Rattle.damage_laws.proofs.Names.{sums_small, IsDamaged}
use Rattle.std.proofs.Common.{◌≡◌, ◌+◌, ◌<◌, ◌++◌, ◌∙◌}
use Rattle.layout.proofs.SummedPages.{header_sector}
use Rattle.damage_laws.proofs.Rows.{same_at, same_in, sectors_row}
use Rattle.damage_laws.proofs.Rows.{nothing_past}

-- ---- header sectors of pages

abbrev words_in : List ℕ → Sums
words_in ns = (page_header_from ns).words

-- a header sector determines the sums in it
pub same_words : (bytes : List ℕ) (g h : PageHeader) → Fit g.words → Fit h.words → bytes ≡ page_header_bytes g →
    bytes ≡ page_header_bytes h → g.words ≡ h.words
same_words bytes g h fg fh is_g is_h =
    header_sector (λ ms. words_in ms ≡ h.words) bytes g fg is_g (λ ms len fm em.
    header_sector (λ ns. words_in ms ≡ words_in ns) bytes h fh is_h (λ ns len' fn en.
    ap words_in (one_sector ms ns (len ∙ sym len') (omega (arith, len')) fm fn (sym em ∙ en))))

length_header : (h : PageHeader) → length (page_header_bytes h) ≡ 512
unfolding page_header_bytes
length_header h = length_sector (page_header_numbers h) (omega arith)

header_shows : (bit : ℕ) (x y : List ℕ) (g h : PageHeader) → x ≡ page_header_bytes g → y ≡ page_header_bytes h → IsRow x → IsRow y →
    DifferInBurst bit x y → x ≡ y
unfolding page_header_bytes
header_shows bit x y g h is_x is_y rx ry burst =
    sectors_show bit x y (page_header_numbers g) (page_header_numbers h) rx ry burst is_x is_y

-- ---- the nine sectors of a page

one_more : (image : Image) (at : ℕ) → sectors_from image at 9 ≡ image at ++ sectors_from image (at + 1) 8
unfolding sectors_from
one_more image at = refl

-- a summed block of a device: its first sector is a header sector, which says the sums of the other eight
pub record IsPageAt (image : Image) (at : ℕ) : Type 0 where
  pub header : PageHeader
  pub first : image at ≡ page_header_bytes header
  pub words : header.words ≡ sums_of (sectors_from image (at + 1) 8)

pub page_at : (size : ℕ) (image : Image) (at : ℕ) → IsWhole size image → IsSummed (sectors_from image at 9) → IsPageAt image at
page_at size image at is summed =
    elim (cases_lt at size) [
      | inl inside ↦
          let long : length (image at) ≡ 512 = is.size at inside in
          record {
            header = summed.header;
            first = sym (ap (take 512) (one_more image at) ∙ take_at (image at) (sectors_from image (at + 1) 8) 512 long) ∙ summed.first;
            words = summed.words ∙ ap (λ (b : List ℕ). sums_of (drop 512 b)) (one_more image at)
                ∙ ap sums_of (drop_at (image at) (sectors_from image (at + 1) 8) 512 long);
          }
      | inr past ↦
          let none : [] ≡ page_header_bytes summed.header =
          ap (take 512) (sym (nothing_past size image at 9 is past)) ∙ summed.first in
          let size : 0 ≡ length (page_header_bytes summed.header) = ap length none in
          absurd (omega (arith, size, length_header summed.header))
    ]

module _ (bit size : ℕ) (old new : Image) (is_old : IsWhole size old) (is_new : IsWhole size new)
    (damaged : IsDamaged bit old new) (at : ℕ) where
  -- if the eight sectors are a cluster before and after the damage, they are unchanged
  pub same_cluster : (m n k : ℕ) → IsCluster m (sectors_from old at 8) → IsCluster n (sectors_from new at 8) → k < 8 →
      new (at + k) ≡ old (at + k)
  same_cluster m n k was is lt =
      same_in bit size old new is_old is_new damaged at 8 k (omega arith) lt (λ i row_old row_new burst.
      clusters_show i (sectors_from old at 8) (sectors_from new at 8) m n row_old row_new burst was is)

  same_page_header : IsPageAt old at → IsPageAt new at → new at ≡ old at
  same_page_header was is =
      same_at bit size old new is_old is_new damaged at
      (λ b. header_shows b (old at) (new at) was.header is.header was.first is.first)

  fits : (image : Image) → IsWhole size image → (page : IsPageAt image at) → Fit page.header.words
  fits image whole page =
      subst Fit (sym page.words)
      (sums_small (sectors_from image (at + 1) 8) (sectors_row size image (at + 1) 8 (omega arith) whole))

  same_sums : IsPageAt old at → IsPageAt new at → sums_of (sectors_from old (at + 1) 8) ≡ sums_of (sectors_from new (at + 1) 8)
  same_sums was is =
      sym was.words
      ∙ same_words (old at) was.header is.header (fits old is_old was) (fits new is_new is) was.first
      (sym (same_page_header was is) ∙ is.first)
      ∙ is.words

  -- if the nine sectors are a page's frame before and after the damage, they are unchanged
  pub same_page : (k : ℕ) → IsSummed (sectors_from old at 9) → IsSummed (sectors_from new at 9) → k < 9 → new (at + k) ≡ old (at + k)
  same_page zero was is lt =
      let here : at ≡ at + 0 = omega arith in
      subst (λ (i : ℕ). new i ≡ old i) here (same_page_header (page_at size old at is_old was) (page_at size new at is_new is))
  same_page (suc k) was is lt =
      let next : at + 1 + k ≡ at + suc k = omega arith in
      let sums = same_sums (page_at size old at is_old was) (page_at size new at is_new is) in
      subst (λ (i : ℕ). new i ≡ old i) next (
      same_in bit size old new is_old is_new damaged (at + 1) 8 k (omega arith) (omega (arith, lt)) (λ i row_old row_new burst.
      bursts_change i (sectors_from old (at + 1) 8) (sectors_from new (at + 1) 8) row_old row_new burst sums))
