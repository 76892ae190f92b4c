use Rattle.ckpt_log.proofs.SealedReading.{header_by}
use Rattle.ckpt_log.proofs.sealed.committed.read_committed.Goals as goal

pub returns-clause-found : goal.returns-clause-found
returns-clause-found g c =
    header_by (g.D.Device.disk c.args.device.now).seen c.in_ok-slots.slots c.args.room c.in_ok-choose.field-0 c.in_ok-slots.ensures.found
    c.in_ok-choose.ensures.found c.in_ok-choose.ensures.limits
