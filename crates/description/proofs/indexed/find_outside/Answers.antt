use Rattle.description.proofs.Names.{arith, All-more}
use Rattle.std.proofs.Common.{◌<◌, ◌≤◌}
use Rattle.description.proofs.Taken.{all_taken}
use Rattle.description.proofs.indexed.find_outside.Goals as goal

pub loop-i-preserved : goal.loop-i-preserved
loop-i-preserved g c = All-more (λ n. (c.args.first ≤ n) × (n < c.args.end)) (g.N.Numbers.numbers c.args.numbers) c.loop-i.i 0
    (omega (arith, c.count-i-end.ensures)) c.loop-i.invariant (rw (← c.at.ensures) (c.is_within.ensures.0 c.if-not-is_within.false))

pub returns : goal.returns
returns g c = all_taken (λ n. (c.args.first ≤ n) × (n < c.args.end)) _ _ (omega (arith, c.count-i-end.ensures)) c.loop-i.invariant
