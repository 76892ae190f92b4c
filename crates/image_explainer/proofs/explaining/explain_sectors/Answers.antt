use Rattle.image_explainer.proofs.Refused.{sectors_failed, sectors_found}
use Rattle.image_explainer.proofs.explaining.explain_sectors.Goals as goal

pub returns-in-Ok : goal.returns-in-Ok
returns-in-Ok g c = λ before refuses.
    sectors_found g.D.Device.disk before c.args.device c.find_on.new.device c.args.reason refuses c.find_on.ensures.reads
    (g.met.D.Device.counts_now c.args.device)
    c.in-Ok.fault c.in-Ok.ensures.found c.in-Ok.ensures.cause

pub returns-in-Err : goal.returns-in-Err
returns-in-Err g c = λ before refuses.
    sectors_failed g.D.Device.disk before c.args.device c.find_on.new.device c.args.reason refuses c.find_on.ensures.reads
    (g.met.D.Device.counts_now c.args.device)
    c.in-Err.fault c.in-Err.ensures.refused c.in-Err.ensures.cause
