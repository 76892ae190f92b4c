use Rattle.description.proofs.Names.{arith, ℕ, subst, take, Contains}
use Rattle.std.proofs.Common.{◌≡◌, ◌∙◌}
use Rattle.description.proofs.FieldFlaws.{one_more_other}
use Rattle.description.proofs.Lists.{contains_none}
use Rattle.description.proofs.indexed.find_before.Goals as goal

pub loop-i-init : goal.loop-i-init
loop-i-init g c = contains_none c.args.number

pub loop-i-preserved : goal.loop-i-preserved
loop-i-preserved g c = one_more_other (g.N.Numbers.numbers c.args.numbers) c.loop-i.i c.args.number
    (omega (arith, c.loop-i-test.true, c.requires))
    c.loop-i.invariant (λ is. c.if-at-number.false (c.at.ensures ∙ is))

pub returns : goal.returns
returns g c =
    let all : c.loop-i.i ≡ c.args.end = omega arith in
    subst (λ (n : ℕ). Contains (take n (g.N.Numbers.numbers c.args.numbers)) c.args.number → ⊥) all c.loop-i.invariant
