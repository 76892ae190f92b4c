-- If a size is outside the limits, the description breaks the rule for limits there.
use Rattle.description.proofs.Names.{nat_tests, ℕ, zero, suc, List, [], length, map, take, Option, None, Some, slice_get, subst, arith, MatchOption, none-some}
use Rattle.description.proofs.Names.{same_Some, Geometry, object_count, Cover, version_number, placed, MayBeLaid, Version, NumberRange, IsGeometry}
use Rattle.description.proofs.Names.{IsWithinLimits, Description, Limit, BreaksGeometry, BreaksLimit, BreaksRanges, GoesOn, count_in}
use Rattle.std.proofs.Common.{◌≡◌, ◌+◌, ◌≤◌, ◌∷◌, ◌^◌}
use Rattle.description.specs.declared.flaw.Limit.TheVariants as limit

-- the parameter is a geometry; the counts of ranges that cover all numbers add up to the number of objects
module _ (g : Geometry) where
  cover_count : (n : ℕ) (rs : List NumberRange) → Cover g n (map (placed 0) rs) → n + count_in rs ≡ object_count g
  cover_count n [] covers = omega (arith, covers)
  cover_count n (r ∷ rs) covers = omega (arith, cover_count (n + r.count) rs covers.1)

  cover_at : (n : ℕ) (rs : List NumberRange) (i : ℕ) (r : NumberRange) → Cover g n (map (placed 0) rs) → slice_get rs i ≡ Some r →
      GoesOn g r (n + count_in (take i rs))
  cover_at n [] i r covers is = absurd (none-some r is)
  cover_at n (s ∷ rs) zero r covers is = grind (arith, nat_tests, same_Some, cover_count)
  cover_at n (s ∷ rs) (suc i) r covers is =
      let place : n + s.count + count_in (take i rs) ≡ n + (s.count + count_in (take i rs)) = omega arith in
      subst (λ m. GoesOn g r m) place (cover_at (n + s.count) rs i r covers.1 is)

  ranges_refuted : (rs : List NumberRange) (l : Limit) → BreaksRanges g rs l → (1 ≤ length rs) × (length rs ≤ 8) →
      Cover g 0 (map (placed 0) rs) → ⊥
  ranges_refuted rs limit.RangeCount broken few covers = broken few
  ranges_refuted rs (limit.Range i n) broken few covers = grind (arith, nat_tests, cover_at, cover_count)
  ranges_refuted rs (limit.RangesEnd n) broken few covers = grind (arith, nat_tests, cover_at, cover_count)
  ranges_refuted rs l broken few covers = broken

pub limit_refuted : (d : Description) (l : Limit) → BreaksLimit d l → IsWithinLimits d → ⊥
limit_refuted d limit.Nodes broken within = broken (within.laid.geometry.least_nodes, within.laid.geometry.most_nodes)
limit_refuted d limit.Pages broken within = broken.1 (within.laid.geometry.least_pages, within.laid.geometry.most_pages)
limit_refuted d limit.Log broken within = broken.2 (within.laid.geometry.least_log, within.laid.geometry.most_log)
limit_refuted d limit.Age broken within = omega (arith, broken.1, within.age)
limit_refuted d limit.Layout broken within = broken.2 within.layout.0 within.layout.1
limit_refuted d limit.RangeCount broken within = ranges_refuted d.geometry d.ranges.items limit.RangeCount broken.3
    (within.laid.some, within.laid.few)
    within.laid.cover
limit_refuted d (limit.Range i n) broken within = ranges_refuted d.geometry d.ranges.items (limit.Range i n) broken.3
    (within.laid.some, within.laid.few)
    within.laid.cover
limit_refuted d (limit.RangesEnd n) broken within = ranges_refuted d.geometry d.ranges.items (limit.RangesEnd n) broken.3
    (within.laid.some, within.laid.few)
    within.laid.cover

pub count_broken : (d : Description) (l : Limit) → BreaksGeometry d.geometry l → BreaksLimit d l
count_broken d limit.Nodes broken = broken
count_broken d limit.Pages broken = broken
count_broken d limit.Log broken = broken
count_broken d other broken = absurd broken

ranges_broken : (d : Description) (l : Limit) → IsGeometry d.geometry → d.age ≤ 2 ^ 62 →
    (v : Version) × (d.layout ≡ version_number v) →
    BreaksRanges d.geometry d.ranges.items l → BreaksLimit d l
ranges_broken d limit.RangeCount geometry age layout broken = (geometry, age, layout, broken)
ranges_broken d (limit.Range i n) geometry age layout broken = (geometry, age, layout, broken)
ranges_broken d (limit.RangesEnd n) geometry age layout broken = (geometry, age, layout, broken)
ranges_broken d other geometry age layout broken = absurd broken

-- if a description keeps all limits but those of ranges, it is within the limits exactly if its ranges are valid
pub ranges_decide : (d : Description) (rs : List NumberRange) (found : Option Limit) (v : Version) → IsGeometry d.geometry →
    rs ≡ d.ranges.items → d.layout ≡ version_number v → d.age ≤ 2 ^ 62 → MatchOption found (MayBeLaid d.geometry rs)
    (λ l. BreaksRanges d.geometry rs l) → MatchOption found (IsWithinLimits d) (λ l. BreaksLimit d l)
ranges_decide d rs None v geometry same layout age laid =
    record { layout = (v, layout); laid = subst (λ ts. MayBeLaid d.geometry ts) same laid; age = age }
ranges_decide d rs (Some l) v geometry same layout age broken =
    ranges_broken d l geometry age (v, layout) (subst (λ ts. BreaksRanges d.geometry ts l) same broken)
