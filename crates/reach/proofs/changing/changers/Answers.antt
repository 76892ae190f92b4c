use Rattle.reach.proofs.Names.{ℕ, Bool, is_marked, is_member, subst, AreChangers, links}
use Rattle.std.proofs.Common.{◌≡◌}
use Rattle.reach.proofs.Sources.{changers_are}
use Rattle.reach.proofs.changing.changers.Goals as goal

pub returns-clause-changers : goal.returns-clause-changers
returns-clause-changers c =
    let same : is_marked c.in_ok-trusts.trusts ≡ is_member c.args.trusted.now = λ k n. c.in_ok-trusts.ensures.each n k in
    subst (λ (t : ℕ → Bool). AreChangers c.args.objects.now (links c.args.purpose t) c.args.starts.now c.args.object
    (is_marked c.in_ok-set.set)) same
    (changers_are _ _ _ _ _ _ c.in_ok-inside.ensures.each c.in_ok-set.ensures.each)
