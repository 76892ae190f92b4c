-- The empty set of touched numbers.
use Rattle.capability.proofs.Names.{ℕ, false, replicate, zero, suc, refl, arith, cond, touched_count, untouched, sum_by-cons, Geometry}
use Rattle.std.proofs.Common.{◌≡◌, ◌+◌}

none_touched : (n : ℕ) → touched_count (replicate n false) ≡ 0
none_touched zero = refl
none_touched (suc n) = let total = sum_by-cons (λ b. cond b 1 0) false (replicate n false) in let rest = none_touched n in
    omega (arith, total, rest)

pub untouched_count : (g : Geometry) → touched_count (untouched g) ≡ 0
unfolding untouched
untouched_count g = none_touched (g.nodes + g.pages)
