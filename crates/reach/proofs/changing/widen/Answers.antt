use Rattle.reach.proofs.Names.{refl}
use Rattle.std.proofs.Common.{◌∙◌}
use Rattle.reach.proofs.Sources.{widens_more, widens_skip}
use Rattle.reach.proofs.changing.widen.Goals as goal
use Rattle.reach.proofs.changing.widen.Goals.{then-leads_into, else-leads_into}

pub loop-number-preserved : goal.loop-number-preserved
loop-number-preserved c =
    let i = c.loop-number.invariant.widens in
    elim c.if-leads_into.branch [
      | then-leads_into w ↦
          let leads = w.if-leads_into.ensures.some refl in
          record {
            widens = rw (w.inside-is, w.grew-is) (widens_more _ _ _ _ _ _ i _ leads.0 leads.1 w.add_owners.ensures.adds);
            count = rw w.to_follow-is (w.add_owners.ensures.count ∙ c.loop-number.invariant.count);
          }
      | else-leads_into w ↦ record {
        widens = rw (w.inside-is, w.grew-is) (widens_skip _ _ _ _ _ _ i (w.if-leads_into.ensures.none refl));
        count = rw w.to_follow-is c.loop-number.invariant.count;
      }
    ]
