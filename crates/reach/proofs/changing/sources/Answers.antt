use Rattle.reach.proofs.Names.{arith, nat_tests, Bool, is_marked, length, length-replicate, subst, links}
use Rattle.std.proofs.Common.{◌≡◌, ◌∙◌}
use Rattle.reach.proofs.Sources.{Sources, sources_are, sources_first, sources_grow, sources_next}
use Rattle.reach.proofs.changing.sources.Goals as goal

pub loop-grew-init : goal.loop-grew-init
loop-grew-init c =
    let long : length c.in_ok-inside.inside ≡ length c.args.objects.now = grind (arith, nat_tests, length-replicate) in
    let longer : length c.in_ok-to_follow.to_follow ≡ length c.args.objects.now = grind (arith, nat_tests, length-replicate) in
    record {
      sources = sources_grow _ _ _ _ _ (sources_first _ _ _ _ _ _ c.in_ok-inside.ensures long c.add_owners.ensures.adds)
          c.follow_back.ensures.grows;
      count = c.follow_back.ensures.count ∙ c.add_owners.ensures.count ∙ longer;
    }

pub loop-grew-preserved : goal.loop-grew-preserved
loop-grew-preserved c = record {
  sources = sources_next _ _ _ _ _ _
      (subst (λ (b : Bool). Sources c.args.objects.now (links c.args.purpose (is_marked c.args.trusted.now)) c.args.object b
      c.loop-grew.inside)
      c.loop-grew-test.true c.loop-grew.invariant.sources)
      c.widen-grew.ensures.widens;
  count = c.widen-grew.ensures.count ∙ c.loop-grew.invariant.count;
}

pub returns-clause-each : goal.returns-clause-each
returns-clause-each c = sources_are _ _ _ _
    (subst (λ (b : Bool). Sources c.args.objects.now (links c.args.purpose (is_marked c.args.trusted.now)) c.args.object b
    c.loop-grew.inside)
    c.loop-grew-test.false c.loop-grew.invariant.sources)
