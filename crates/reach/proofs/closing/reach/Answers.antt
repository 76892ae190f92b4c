use Rattle.reach.proofs.Names.{is_marked, is_member, links}
use Rattle.reach.proofs.Chains.{bounds_runs, is_reach}
use Rattle.reach.proofs.closing.reach.Goals as goal

pub returns-clause-reach : goal.returns-clause-reach
returns-clause-reach c =
    let searched = c.in_ok-levels.ensures in
    is_reach c.args.objects.now (links c.args.purpose (is_member c.args.trusted.now)) c.args.starts.now searched.0 c.in_ok-levels.levels
    searched.1 searched.2 (is_marked c.in_ok-inside.inside)
    c.in_ok-inside.ensures.each

pub returns-clause-bounds : goal.returns-clause-bounds
returns-clause-bounds c = bounds_runs c.args.objects.now (links c.args.purpose (is_member c.args.trusted.now))
    (is_marked c.in_ok-inside.inside) (returns-clause-reach c).closed
