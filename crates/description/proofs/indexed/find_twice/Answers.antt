use Rattle.description.proofs.Names.{arith, subst, take_all, All-more, AreDistinct}
use Rattle.std.proofs.Common.{◌≤◌}
use Rattle.description.proofs.FieldFlaws.{distinct_more, twice_at}
use Rattle.description.proofs.indexed.find_twice.Goals as goal

pub loop-j-init : goal.loop-j-init
loop-j-init g c = (tt, λ k d lt. absurd (omega (arith, lt)))

pub find_low-requires-clause-low : goal.find_low-requires-clause-low
find_low-requires-clause-low g c = c.loop-j.invariant.1

pub loop-j-preserved : goal.loop-j-preserved
loop-j-preserved g c = (
  distinct_more (g.N.Numbers.numbers c.args.numbers) c.loop-j.j _ (omega (arith, c.count-j-end.ensures)) c.at-number.ensures
      c.in_default.ensures c.loop-j.invariant.0,
  All-more (λ n. n ≤ c.greater-most.result) (g.N.Numbers.numbers c.args.numbers) c.loop-j.j 0 (omega (arith, c.count-j-end.ensures))
      (λ k d lt. let low = c.loop-j.invariant.1 k d lt in omega (arith, low, c.greater-most.ensures.one))
      (rw (← c.at-number.ensures) c.greater-most.ensures.other),
)

pub returns-in-Some : goal.returns-in-Some
returns-in-Some g c = (
  c.loop-j.invariant.0,
  twice_at (g.N.Numbers.numbers c.args.numbers) c.in-Some.i c.loop-j.j _ (omega (arith, c.count-j-end.ensures)) c.at-number.ensures
      c.in-Some.ensures,
)

pub returns : goal.returns
returns g c = subst AreDistinct (take_all c.loop-j.j (g.N.Numbers.numbers c.args.numbers) (omega (arith, c.count-j-end.ensures)))
    c.loop-j.invariant.0
