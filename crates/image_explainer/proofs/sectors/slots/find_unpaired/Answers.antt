use Rattle.image_explainer.proofs.Names.{arith}
use Rattle.image_explainer.proofs.sectors.slots.find_unpaired.Goals as goal

pub returns-clause-found : goal.returns-clause-found
returns-clause-found g c =
    let seen = (g.D.Device.disk c.args.device.now).seen in
    let each = c.in_ok-slots.ensures.found.each in (
      (c.args.plan.now, c.requires.plan, c.requires.bad),
      (
        c.args.plan.now,
        c.requires.plan,
        c.requires.sealed,
        c.why_not.ensures seen (each 0 _ (omega arith)),
        c.why_not-2.ensures seen (each 1 _ (omega arith)),
        c.why_not-3.ensures seen (each 2 _ (omega arith)),
      ),
    )
