use Rattle.reach.proofs.Names.{is_member, reverse, refl, rules, sym, links}
use Rattle.std.proofs.Common.{◌≡◌, ◌∙◌}
use Rattle.reach.proofs.Chains.{back_level, back_next, back_shortest, no_chain, only_reach}
use Rattle.reach.proofs.chaining.shortest_chain.Invariants.{level_of}
use Rattle.reach.proofs.chaining.shortest_chain.Goals as goal

pub returns-then-not-contains-clause-shortest : goal.returns-then-not-contains-clause-shortest
returns-then-not-contains-clause-shortest c =
    let searched = c.in_ok-levels.ensures in
    no_chain c.args.objects.now (links c.args.purpose (is_member c.args.trusted.now)) c.args.starts.now searched.0 c.in_ok-levels.levels
    searched.1 searched.2 c.args.object (sym c.if-not-contains.ensures)

pub returns-then-not-contains-clause-reach : goal.returns-then-not-contains-clause-reach
returns-then-not-contains-clause-reach c inside reach =
    let searched = c.in_ok-levels.ensures in
    only_reach c.args.objects.now (links c.args.purpose (is_member c.args.trusted.now)) c.args.starts.now searched.0 c.in_ok-levels.levels
    searched.1 searched.2 inside reach c.args.object
    ∙ sym c.if-not-contains.ensures

pub loop-step-smaller : goal.loop-step-smaller
loop-step-smaller c =
    let searched = c.in_ok-levels.ensures in
    back_level _ _ _ _ _ searched.1 searched.2 _ _ _ c.loop-step.invariant _ (sym c.in-Some.ensures) level_of (λ f. refl)

pub loop-step-preserved : goal.loop-step-preserved
loop-step-preserved c =
    let searched = c.in_ok-levels.ensures in
    back_next _ _ _ _ _ searched.1 searched.2 _ _ _ c.loop-step.invariant _ _ (sym c.in-Some.ensures) (search rules)

pub returns-clause-shortest : goal.returns-clause-shortest
returns-clause-shortest c =
    let searched = c.in_ok-levels.ensures in
    let reversed : c.reverse.new.self.items ≡ reverse c.loop-step.steps.items = search rules in
    rw reversed (back_shortest _ _ _ _ _ searched.1 searched.2 _ _ _ c.loop-step.invariant (sym c.in_default.ensures)
    (sym c.if-not-contains.ensures))

pub returns-clause-reach : goal.returns-clause-reach
returns-clause-reach c inside reach =
    let searched = c.in_ok-levels.ensures in
    only_reach c.args.objects.now (links c.args.purpose (is_member c.args.trusted.now)) c.args.starts.now searched.0 c.in_ok-levels.levels
    searched.1 searched.2 inside reach c.args.object
    ∙ sym c.if-not-contains.ensures
