-- Parts that are laid out one after the other form a plan.
use Rattle.home_ranges.proofs.Names.{nat_tests, ℕ, zero, suc, Bool, List, [], length, map, refl, sym, subst, arith, lt-ltb, le-ltb, All, Geometry, Extent}
use Rattle.home_ranges.proofs.Names.{Version, One, Two, Cover, IsPlan, IsWithin, AreApart, extent_at, extents, half_extent, nodes_length, range_extent}
use Rattle.home_ranges.proofs.Names.{NumberRange, MayBeLaid, behind, laid, placed, plan_from, sectors_of, cover_within, IfSome, IfNone, Plan, MayBegin}
use Rattle.home_ranges.proofs.Names.{opened_half, half_length, aligned, row, ap, inl, aligned_least, aligned_most, aligned_multiple, sum_multiple}
use Rattle.home_ranges.proofs.Names.{first_multiple, half_few, half_multiple}
use Rattle.std.proofs.Common.{◌≡◌, ◌⊎◌, ◌+◌, ◌-◌, ◌*◌, ◌%◌, ◌<◌, ◌≤◌, ◌∷◌, ◌++◌, ◌∙◌}
use Rattle.std.specs.Prelude.{if◌then◌else◌, Option, Some, None}
use Rattle.home_ranges.proofs.Laying.{cons_behind, cons_laid, length_laid, none_behind, none_laid}

-- ---- extents that follow one another

-- each extent begins behind the one before it, at a multiple of the alignment, and they end before sector `total`
abbrev Follow : Version → ℕ → ℕ → List Extent → Type 0
Follow v total at [] = at ≤ total
Follow v total at (e ∷ es) = (at ≤ e.sector) × (e.sector % (row v).alignment ≡ 0) × Follow v total (e.sector + e.length) es

ends_later : (v : Version) (total at : ℕ) (es : List Extent) → Follow v total at es → at ≤ total
ends_later v total at [] follow = follow
ends_later v total at (e ∷ es) follow = let rest = ends_later v total (e.sector + e.length) es follow.2 in omega (arith, follow.0, rest)

starts_later : (v : Version) (total at : ℕ) (es : List Extent) (j : ℕ) → Follow v total at es → j < length es → at ≤ (extent_at es j).sector
starts_later v total at [] j follow lt = absurd (omega (arith, lt))
starts_later v total at (e ∷ es) zero follow lt = follow.0
starts_later v total at (e ∷ es) (suc j) follow lt =
    let rest = starts_later v total (e.sector + e.length) es j follow.2 (omega (arith, lt)) in
    omega (arith, follow.0, rest)

follow_earlier : (v : Version) (total m n : ℕ) (es : List Extent) → m ≤ n → Follow v total n es → Follow v total m es
follow_earlier v total m n [] le follow = omega (arith, le, follow)
follow_earlier v total m n (e ∷ es) le follow = (omega (arith, le, follow.0), follow.1, follow.2)

follow_apart : (v : Version) (total at : ℕ) (es : List Extent) → Follow v total at es → AreApart es
follow_apart v total at [] follow i j lt within = absurd (omega (arith, within))
follow_apart v total at (e ∷ es) follow i zero lt within = absurd (omega (arith, lt))
follow_apart v total at (e ∷ es) follow zero (suc j) lt within =
    inl (starts_later v total (e.sector + e.length) es j follow.2 (omega (arith, within)))
follow_apart v total at (e ∷ es) follow (suc i) (suc j) lt within =
    follow_apart v total (e.sector + e.length) es follow.2 i j (omega (arith, lt)) (omega (arith, within))

follow_within : (v : Version) (total at : ℕ) (es : List Extent) → 5 ≤ at → Follow v total at es → All (IsWithin total) es
follow_within v total at [] low follow k d lt = absurd (omega (arith, lt))
follow_within v total at (e ∷ es) low follow zero d lt =
    let end = ends_later v total (e.sector + e.length) es follow.2 in (omega (arith, low, follow.0), end)
follow_within v total at (e ∷ es) low follow (suc k) d lt =
    follow_within v total (e.sector + e.length) es (omega (arith, low, follow.0)) follow.2 k d (omega (arith, lt))

follow_begin : (v : Version) (total at : ℕ) (es : List Extent) → (row v).first_home ≤ at → Follow v total at es → All (MayBegin v) es
follow_begin v total at [] low follow k d lt = absurd (omega (arith, lt))
follow_begin v total at (e ∷ es) low follow zero d lt = (omega (arith, low, follow.0), follow.1)
follow_begin v total at (e ∷ es) low follow (suc k) d lt =
    follow_begin v total (e.sector + e.length) es (omega (arith, low, follow.0)) follow.2 k d (omega (arith, lt))

-- ---- ranges that are laid out, and the extents after them

laid_follow : (v : Version) (g : Geometry) (total at : ℕ) (rs : List NumberRange) (es : List Extent) → at % (row v).alignment ≡ 0 →
    Follow v total (behind v g at rs) es → Follow v total at (map (range_extent v g) (laid v g at rs) ++ es)
laid_follow v g total at [] es even follow =
    rw (none_laid v g at) (subst (λ (n : ℕ). Follow v total n es) (none_behind v g at) follow)
laid_follow v g total at (r ∷ rs) es even follow =
    let next : ℕ = aligned v (at + sectors_of v g r) in
    rw (cons_laid v g at r rs) (
      omega arith,
      even,
      follow_earlier v total (at + sectors_of v g r) next (map (range_extent v g) (laid v g next rs) ++ es)
          (aligned_least v (at + sectors_of v g r))
          (laid_follow v g total next rs es (aligned_multiple v (at + sectors_of v g r))
          (subst (λ (n : ℕ). Follow v total n es) (cons_behind v g at r rs) follow)),
    )

behind_multiple : (v : Version) (g : Geometry) (at : ℕ) (rs : List NumberRange) → at % (row v).alignment ≡ 0 →
    behind v g at rs % (row v).alignment ≡ 0
behind_multiple v g at [] even = ap (λ (n : ℕ). n % (row v).alignment) (none_behind v g at) ∙ even
behind_multiple v g at (r ∷ rs) even =
    ap (λ (n : ℕ). n % (row v).alignment) (cons_behind v g at r rs)
    ∙ behind_multiple v g (aligned v (at + sectors_of v g r)) rs (aligned_multiple v (at + sectors_of v g r))

-- which numbers ranges cover doesn't depend on their sectors
cover_laid : (v : Version) (g : Geometry) (n at : ℕ) (rs : List NumberRange) → Cover g n (map (placed 0) rs) → Cover g n (laid v g at rs)
cover_laid v g n at [] c = subst (Cover g n) (sym (none_laid v g at)) c
cover_laid v g n at (r ∷ rs) c = subst (Cover g n) (sym (cons_laid v g at r rs))
    (c.0, cover_laid v g (n + r.count) (aligned v (at + sectors_of v g r)) rs c.1)

laid_covers : (v : Version) (g : Geometry) (n at : ℕ) (rs : List NumberRange) → Cover g n (laid v g at rs) → Cover g n (map (placed 0) rs)
laid_covers v g n at [] c = subst (Cover g n) (none_laid v g at) c
laid_covers v g n at (r ∷ rs) c =
    let here = subst (Cover g n) (cons_laid v g at r rs) c in
    (here.0, laid_covers v g (n + r.count) (aligned v (at + sectors_of v g r)) rs here.1)

-- ---- how many sectors the ranges take

-- how many sectors the numbers from n on take in version 1
abbrev sectors_from : Geometry → ℕ → ℕ
sectors_from g n = 2 * (g.nodes - n) + 9 * (g.nodes + g.pages - n - (g.nodes - n))

-- in each version a range of `count` nodes takes at most 2 count + 8 sectors
few_more : (v : Version) (count : ℕ) → nodes_length v count ≤ 2 * count + 8
few_more v count = search arith

range_takes : (v : Version) (g : Geometry) (r : NumberRange) (n : ℕ) → r.first ≡ n → 0 < r.count →
    (r.first + r.count ≤ g.nodes) ⊎ (g.nodes ≤ r.first) → n + r.count ≤ g.nodes + g.pages
    → sectors_of v g r + sectors_from g (n + r.count) ≤ sectors_from g n + 8
range_takes v g r n first some kind few = search (arith, lt-ltb, few_more, le-ltb)

behind_few : (v : Version) (g : Geometry) (n at : ℕ) (rs : List NumberRange) → Cover g n (map (placed 0) rs) →
    behind v g at rs ≤ at + sectors_from g n + 15 * length rs
behind_few v g n at [] c = let none = none_behind v g at in omega (arith, none)
behind_few v g n at (r ∷ rs) c = grind (
  arith,
  nat_tests,
  cover_within,
  range_takes,
  cons_behind,
  aligned_most v (at + sectors_of v g r),
  behind_few v g (n + r.count) (aligned v (at + sectors_of v g r)) rs c.1,
)

module _ (v : Version) (g : Geometry) (rs : List NumberRange) (may : MayBeLaid g rs) where
  abbrev first : ℕ
  first = (row v).first_home

  abbrev end : ℕ
  end = behind v g first rs

  abbrev halves : List Extent
  halves = half_extent v g end ∷ half_extent v g (end + half_length v g) ∷ []

  end_multiple : end % (row v).alignment ≡ 0
  end_multiple = behind_multiple v g first rs (first_multiple v).0

  follow : Follow v (plan_from v g rs).total first (extents (plan_from v g rs))
  follow =
      laid_follow v g (plan_from v g rs).total first rs halves (first_multiple v).0
      (omega arith, end_multiple, (omega arith, sum_multiple v end (half_length v g) end_multiple (half_multiple v g), omega arith))

  -- if the numbers of objects and slots are within the limits, the total is at most what a device may have
  total_few : (plan_from v g rs).total ≤ 131072
  total_few =
      let all = behind_few v g 0 first rs may.cover in
      let half = half_few v g may.geometry.most_log in
      let begin = first_multiple v in
      omega (arith, all, half, begin.2, may.few, may.geometry.most_nodes, may.geometry.most_pages)

  is_plan : IsPlan (plan_from v g rs)
  is_plan = record {
    geometry = may.geometry;
    some = omega (arith, may.some, length_laid v g first rs);
    few = omega (arith, may.few, length_laid v g first rs);
    total = total_few;
    cover = cover_laid v g 0 first rs may.cover;
    within = follow_within v (plan_from v g rs).total first (extents (plan_from v g rs)) (first_multiple v).1 follow;
    begin = follow_begin v (plan_from v g rs).total first (extents (plan_from v g rs)) (omega arith) follow;
    apart = follow_apart v (plan_from v g rs).total first (extents (plan_from v g rs)) follow;
  }

-- if the plan with these ranges is valid, the ranges may be laid out
may_be : (v : Version) (g : Geometry) (rs : List NumberRange) → IsPlan (plan_from v g rs) → MayBeLaid g rs
may_be v g rs is = search (arith, length_laid, laid_covers)

pub laid_out : (v : Version) (g : Geometry) (rs : List NumberRange) (r : Option Plan) → IfSome r (λ s. s ≡ plan_from v g rs) →
    IfSome r (λ s. IsPlan s) → IfSome r (λ _. MayBeLaid g rs)
laid_out v g rs None is fits = tt
laid_out v g rs (Some s) is fits = may_be v g rs (subst IsPlan is fits)

pub not_laid_out : (v : Version) (g : Geometry) (rs : List NumberRange) (r : Option Plan) → IfNone r (IsPlan (plan_from v g rs) → ⊥) →
    IfNone r (MayBeLaid g rs → ⊥)
not_laid_out v g rs None none = λ may. none (is_plan v g rs may)
not_laid_out v g rs (Some s) none = tt

-- ---- version 2 compared with version 1

-- in version 2 a range takes at most 8 sectors more than in version 1
second_takes : (is_node : Bool) (count : ℕ) → (if is_node then nodes_length Two count else 9 * count)
    ≤ (if is_node then nodes_length One count else 9 * count) + 8
second_takes is_node count = search arith

same_one : (n : ℕ) → aligned One n ≡ n
same_one n = omega arith

same_two : (n : ℕ) → aligned Two n ≡ n
same_two n = omega arith

second_behind : (g : Geometry) (one two : ℕ) (rs : List NumberRange) → behind Two g two rs + one ≤ behind One g one rs + two + 8 * length rs
second_behind g one two [] = let first = none_behind One g one in let second = none_behind Two g two in omega (arith, first, second)
second_behind g one two (r ∷ rs) = grind (
  arith,
  nat_tests,
  second_takes,
  cons_behind,
  same_one (one + sectors_of One g r),
  same_two (two + sectors_of Two g r),
  second_behind g (aligned One (one + sectors_of One g r)) (aligned Two (two + sectors_of Two g r)) rs,
)

pub second_total : (g : Geometry) (rs : List NumberRange) → (plan_from Two g rs).total ≤ (plan_from One g rs).total + 8 * length rs
second_total g rs =
    let end = second_behind g 5 5 rs in
    let one = opened_half One g refl in
    let two = opened_half Two g refl in
    omega (arith, end, one, two)

-- ---- no range has more numbers than there are objects

counts_few : (g : Geometry) (n : ℕ) (rs : List NumberRange) → Cover g n (map (placed 0) rs) → All (λ r. r.count ≤ g.nodes + g.pages) rs
counts_few g n [] c k d lt = absurd (omega (arith, lt))
counts_few g n (r ∷ rs) c zero d lt = let rest = cover_within g (n + r.count) (map (placed 0) rs) c.1 in omega (arith, rest)
counts_few g n (r ∷ rs) c (suc k) d lt = counts_few g (n + r.count) rs c.1 k d (omega (arith, lt))

pub few_counts : (g : Geometry) (rs : List NumberRange) → MayBeLaid g rs → All (λ r. r.count ≤ 8192) rs
few_counts g rs may k d lt = let few = counts_few g 0 rs may.cover k d lt in
    omega (arith, few, may.geometry.most_nodes, may.geometry.most_pages)
