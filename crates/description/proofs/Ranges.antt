-- Ranges of numbers that follow one another without a gap.
use Rattle.description.proofs.Names.{ℕ, List, [], length, map, get_or, take, drop, sym, ap, arith, drop_more, get_or_default, take_more, Geometry, object_count}
use Rattle.description.proofs.Names.{Cover, placed, NumberRange, GoesOn, GoOn, count_in, IsSomeAnd, cases_eq, inl, inr, slice_get, slice_get-get_or, subst}
use Rattle.std.proofs.Common.{◌≡◌, ◌+◌, ◌<◌, ◌≤◌, ◌∷◌, ◌++◌, ◌∙◌}

count_more : (rs : List NumberRange) (r : NumberRange) → count_in (rs ++ r ∷ []) ≡ count_in rs + r.count
count_more [] r = omega arith
count_more (s ∷ rs) r = omega (arith, count_more rs r)

-- the first i ranges follow one another up to `next`; if the others cover the numbers from there, all ranges cover all numbers
pub record GoneTo (g : Geometry) (rs : List NumberRange) (i next : ℕ) : Type 0 where
  pub count : next ≡ count_in (take i rs)
  pub within : next ≤ object_count g
  pub before : GoOn g rs i
  pub goes_on : Cover g next (map (placed 0) (drop i rs)) → Cover g 0 (map (placed 0) rs)

-- if the next range begins at `next`, the first i + 1 follow one another
pub gone_on : (g : Geometry) (rs : List NumberRange) (i next : ℕ) (d : NumberRange) → i < length rs → GoneTo g rs i next →
    GoesOn g (get_or rs i d) next → GoneTo g rs (i + 1) (next + (get_or rs i d).count)
gone_on g rs i next d lt gone on = record {
  count = ap (λ n. n + (get_or rs i d).count) gone.count ∙ sym (count_more (take i rs) (get_or rs i d))
      ∙ ap count_in (sym (take_more rs i (get_or rs i d) lt ∙ ap (λ s. take i rs ++ s ∷ []) (get_or_default rs i (get_or rs i d) d lt)));
  within = on.1;
  before = λ j less. elim (cases_eq j i) [
    | inl is ↦ subst (λ k. IsSomeAnd (slice_get rs k) (λ r. GoesOn g r (count_in (take k rs)))) (sym is)
        (rw (slice_get-get_or rs i d lt) (subst (λ n. GoesOn g (get_or rs i d) n) gone.count on))
    | inr differ ↦ gone.before j (omega (arith, less, differ))
  ];
  goes_on = λ covers. gone.goes_on (rw (drop_more rs i (get_or rs i d) lt ∙ ap (λ s. s ∷ drop (i + 1) rs)
      (get_or_default rs i (get_or rs i d) d lt))
      (on.0, covers));
}
