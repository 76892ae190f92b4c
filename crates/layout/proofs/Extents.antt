-- Sectors that don't overlap, and ranges that cover all numbers.
use Rattle.layout.proofs.Names.{nat_tests, [], ℕ, zero, suc, List, length, get_or, set, take, drop, sym, ap, subst, inl, inr, arith, All, between, cases_lt}
use Rattle.layout.proofs.Names.{get_or-drop, get_or_default, length-drop, length-set, take_rest, take_all, take_more_set, drop_more, Geometry, Extent}
use Rattle.layout.proofs.Names.{HomeRange, extent_at, IsApart, AreApart, Cover, IsNext}
use Rattle.std.proofs.Common.{◌≡◌, ◌+◌, ◌-◌, ◌<◌, ◌≤◌, ◌∷◌, ◌++◌, ◌∙◌}
use Rattle.std.proofs.lemmas.List.{append_assoc}

-- each of the first n extents is apart from all extents after it
abbrev pub ApartBelow : List Extent → ℕ → Type 0
ApartBelow es n = (i j : ℕ) → i < n → i < j → j < length es → IsApart (extent_at es i) (extent_at es j)

pub apart_more : (es : List Extent) (n : ℕ) (e : Extent) → e ≡ extent_at es n → ApartBelow es n →
    All (IsApart e) (between (n + 1) (length es) es) → ApartBelow es (n + 1)
apart_more es n e is below here i j lt lt' within = elim (cases_lt i n) [
  | inl less ↦ below i j less lt' within
  | inr le ↦
      let at : i ≡ n = omega arith in
      let rest : All (IsApart e) (drop (n + 1) es) = subst (All (IsApart e)) (take_rest es (n + 1)) here in
      let one = rest (j - (n + 1)) (record { sector = 0; length = 0 }) (omega (arith, length-drop (n + 1) es)) in
      let place : n + 1 + (j - (n + 1)) ≡ j = omega arith in
      let other : get_or (drop (n + 1) es) (j - (n + 1)) (record { sector = 0; length = 0 }) ≡ extent_at es j =
      grind (arith, nat_tests, get_or-drop) in
      subst (λ (m : ℕ). IsApart (extent_at es m) (extent_at es j)) (sym at)
      (subst (λ (x : Extent). IsApart x (extent_at es j)) is (subst (λ (x : Extent). IsApart e x) other one))
]

pub not_apart : (es : List Extent) (n : ℕ) (e : Extent) → e ≡ extent_at es n → (All (IsApart e) (between (n + 1) (length es) es) → ⊥) →
    AreApart es → ⊥
not_apart es n e is hold apart = hold (subst (All (IsApart e)) (sym (take_rest es (n + 1))) (λ k d lt.
    let place : n < n + 1 + k = omega arith in
    let pair = apart n (n + 1 + k) place (omega (arith, length-drop (n + 1) es)) in
    let other : extent_at es (n + 1 + k) ≡ get_or (drop (n + 1) es) k d = grind (arith, nat_tests, get_or-drop, get_or_default) in
    subst (λ (x : Extent). IsApart x (get_or (drop (n + 1) es) k d)) (sym is) (subst (IsApart (extent_at es n)) other pair)))

-- ---- extents in a list

pub two_set : (into xs : List Extent) (n : ℕ) (a b : Extent) → length into ≡ n + 2 → take n into ≡ xs →
    set (set into n a) (n + 1) b ≡ xs ++ a ∷ b ∷ []
two_set into xs n a b len front =
    let one : take (n + 1) (set into n a) ≡ take n into ++ a ∷ [] = take_more_set into n a (omega arith) in
    let size : length (set into n a) ≡ n + 2 = length-set into n a ∙ len in
    let two : take (n + 1 + 1) (set (set into n a) (n + 1) b) ≡ take (n + 1) (set into n a) ++ b ∷ [] =
    take_more_set (set into n a) (n + 1) b (omega arith) in
    sym (take_all (n + 1 + 1) (set (set into n a) (n + 1) b) (omega (arith, length-set (set into n a) (n + 1) b)))
    ∙ two ∙ ap (λ (r : List Extent). r ++ b ∷ []) (one ∙ ap (λ (r : List Extent). r ++ a ∷ []) front) ∙ append_assoc xs (a ∷ []) (b ∷ [])

-- ---- ranges

-- the ranges before index i end at number `next`: all ranges cover the objects exactly if the rest cover them from `next` on
pub record CoveredTo (g : Geometry) (rs : List HomeRange) (i next : ℕ) : Type 0 where
  pub within : next ≤ g.nodes + g.pages
  pub goes_on : Cover g next (drop i rs) → Cover g 0 rs
  pub went_on : Cover g 0 rs → Cover g next (drop i rs)

abbrev pub range_at : List HomeRange → ℕ → HomeRange
range_at rs i = get_or rs i (record { first = 0; count = 0; sector = 0 })

-- if ranges cover the objects from n on, n is at most the number of objects
pub cover_within : (g : Geometry) (n : ℕ) (rs : List HomeRange) → Cover g n rs → n ≤ g.nodes + g.pages
cover_within g n [] c = omega (arith, c)
cover_within g n (r ∷ rs) c = let rest = cover_within g (n + r.count) rs c.1 in omega arith

pub not_covered : (g : Geometry) (rs : List HomeRange) (i next : ℕ) → i < length rs → CoveredTo g rs i next →
    (IsNext g (range_at rs i) next → (range_at rs i).count ≤ g.nodes + g.pages - next → ⊥) → Cover g 0 rs → ⊥
not_covered g rs i next lt was hold c = grind (arith, nat_tests, drop_more, cover_within)

-- no range begins after the last number, or has more numbers than there are objects
pub ranges_within : (g : Geometry) (n : ℕ) (rs : List HomeRange) → Cover g n rs →
    All (λ r. (r.first ≤ g.nodes + g.pages) × (r.count ≤ g.nodes + g.pages)) rs
ranges_within g n [] c k d lt = absurd (omega arith)
ranges_within g n (r ∷ rs) c zero d lt = let rest = cover_within g (n + r.count) rs c.1 in omega (arith, c.0.0)
ranges_within g n (r ∷ rs) c (suc k) d lt = ranges_within g (n + r.count) rs c.1 k d (omega arith)
