use Rattle.space_bank.proofs.Names.{rules}
use Rattle.space_bank.proofs.Tallies.{climb_starts, climbs_on, shifted_last, shifting_starts, shifts_on, still_fits}
use Rattle.space_bank.proofs.chains.shift.Goals as goal

pub loop-step-init : goal.loop-step-init
loop-step-init g c = record { climbs = climb_starts c.requires.bank; shifting = shifting_starts }

pub overflow_add-usages : goal.overflow_add-usages
overflow_add-usages g c =
    record {
      fits = (still_fits c.requires.tree c.loop-step.invariant.climbs c.requires.each c.requires.fits
          c.loop-step.invariant.shifting).few;
    }

pub overflow_sub-usages : goal.overflow_sub-usages
overflow_sub-usages g c =
    (still_fits c.requires.tree c.loop-step.invariant.climbs c.requires.each c.requires.fits c.loop-step.invariant.shifting).enough

pub returns-then-current-eq0 : goal.returns-then-current-eq0
returns-then-current-eq0 g c = search (rules, shifted_last)

pub loop-step-preserved : goal.loop-step-preserved
loop-step-preserved g c =
    let at = c.loop-step.invariant in
    rw c.owner-current.ensures (record {
      climbs = climbs_on c.requires.tree at.climbs c.if-current-eq0.false;
      shifting = shifts_on c.requires.tree at.climbs c.requires.each c.requires.fits at.shifting c.if-current-eq0.false;
    })
