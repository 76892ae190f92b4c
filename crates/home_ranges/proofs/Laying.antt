-- Ranges are laid out one after the other.
use Rattle.home_ranges.proofs.Names.{ℕ, suc, nat_lt, Bool, List, [], length, get_or, set, take, drop, refl, sym, ap, append_assoc, arith, append-nil, drop_all}
use Rattle.home_ranges.proofs.Names.{drop_more, length-set, take_all, take_more_set, Geometry, HomeRange, Version, nodes_length, NumberRange, behind, laid}
use Rattle.home_ranges.proofs.Names.{aligned, aligned_most, first_multiple, placed, row, sectors_of}
use Rattle.std.proofs.Common.{◌≡◌, ◌+◌, ◌*◌, ◌<◌, ◌≤◌, ◌∷◌, ◌++◌, ◌∙◌}
use Rattle.std.specs.Prelude.{if◌then◌else◌}

pub cons_laid : (v : Version) (g : Geometry) (at : ℕ) (r : NumberRange) (rs : List NumberRange) →
    laid v g at (r ∷ rs) ≡ placed at r ∷ laid v g (aligned v (at + sectors_of v g r)) rs
unfolding laid
cons_laid v g at r rs = refl

pub none_laid : (v : Version) (g : Geometry) (at : ℕ) → laid v g at [] ≡ []
unfolding laid
none_laid v g at = refl

pub cons_behind : (v : Version) (g : Geometry) (at : ℕ) (r : NumberRange) (rs : List NumberRange) →
    behind v g at (r ∷ rs) ≡ behind v g (aligned v (at + sectors_of v g r)) rs
unfolding behind
cons_behind v g at r rs = refl

pub none_behind : (v : Version) (g : Geometry) (at : ℕ) → behind v g at [] ≡ at
unfolding behind
none_behind v g at = refl

pub length_laid : (v : Version) (g : Geometry) (at : ℕ) (rs : List NumberRange) → length (laid v g at rs) ≡ length rs
unfolding laid
length_laid v g at [] = refl
length_laid v g at (r ∷ rs) = ap suc (length_laid v g (aligned v (at + sectors_of v g r)) rs)

few_by : (v : Version) (b : Bool) (n : ℕ) → n ≤ 8192 → (if b then nodes_length v n else 9 * n) ≤ 73728
few_by v b n few = search arith

pub few_sectors : (v : Version) (g : Geometry) (r : NumberRange) → r.count ≤ 8192 → sectors_of v g r ≤ 73728
few_sectors v g r few = few_by v (nat_lt r.first g.nodes) r.count few

-- the first i ranges are laid out; the others follow from sector `next` on
pub record LaidTo (v : Version) (g : Geometry) (rs : List NumberRange) (into : List HomeRange) (i next : ℕ) : Type 0 where
  pub size : length into ≡ length rs
  pub rest : laid v g (row v).first_home rs ≡ take i into ++ laid v g next (drop i rs)
  pub end : behind v g (row v).first_home rs ≡ behind v g next (drop i rs)
  pub most : next ≤ 56 + 73735 * i

abbrev pub range_at : List NumberRange → ℕ → NumberRange
range_at rs i = get_or rs i (record { first = 0; count = 0 })

pub laid_more : (v : Version) (g : Geometry) (rs : List NumberRange) (into : List HomeRange) (i next : ℕ) → i < length rs →
    (range_at rs i).count ≤ 8192 → LaidTo v g rs into i next
    → LaidTo v g rs (set into i (placed next (range_at rs i))) (i + 1)
    (aligned v (next + sectors_of v g (range_at rs i)))
laid_more v g rs into i next lt few was = search (
  arith,
  drop_more,
  take_more_set,
  length-set,
  cons_laid,
  append_assoc,
  cons_behind,
  few_sectors,
  aligned_most v (next + sectors_of v g (range_at rs i)),
)

pub none_laid_yet : (v : Version) (g : Geometry) (rs : List NumberRange) (into : List HomeRange) → length into ≡ length rs →
    LaidTo v g rs into 0 (row v).first_home
none_laid_yet v g rs into size =
    record { size = size; rest = refl; end = refl; most = let first = first_multiple v in omega (arith, first.2) }

pub all_laid : (v : Version) (g : Geometry) (rs : List NumberRange) (into : List HomeRange) (i next : ℕ) → length rs ≤ i →
    LaidTo v g rs into i next → into ≡ laid v g (row v).first_home rs
all_laid v g rs into i next done was = search (arith, drop_all, none_laid, append-nil, take_all)

pub end_laid : (v : Version) (g : Geometry) (rs : List NumberRange) (into : List HomeRange) (i next : ℕ) → length rs ≤ i →
    LaidTo v g rs into i next → next ≡ behind v g (row v).first_home rs
end_laid v g rs into i next done was = sym (was.end ∙ ap (behind v g next) (drop_all i rs done) ∙ none_behind v g next)
