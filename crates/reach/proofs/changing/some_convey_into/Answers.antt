use Rattle.reach.proofs.Names.{arith, inl, inr, refl, subst, cases_lt, get_or_default, is_marked, Void, slice_index_or, ℕ, others, StaysFor, links}
use Rattle.std.proofs.Common.{◌≡◌}
use Rattle.reach.proofs.changing.some_convey_into.Goals as goal

pub loop-capability-preserved : goal.loop-capability-preserved
loop-capability-preserved c k d lt =
    let i = c.loop-capability.capability-index in
    let cs = c.args.capabilities.now in
    let follows = links c.args.purpose (is_marked c.args.trusted.now) in
    let other = others (is_marked c.args.inside.now) in
    elim (cases_lt k i) [
      | inl below ↦ c.loop-capability.invariant k d below
      | inr past ↦
          let here : i ≡ k = omega (arith, past, lt) in
          subst (λ (j : ℕ). StaysFor follows other (slice_index_or cs j d)) here
          (subst (StaysFor follows other) (get_or_default cs i Void d c.loop-capability-test.true) (c.if-conveys_into.ensures.none refl))
    ]

pub returns-clause-none : goal.returns-clause-none
returns-clause-none c none k d lt = c.loop-capability.invariant k d (omega (arith, lt, c.loop-capability-test.false))
