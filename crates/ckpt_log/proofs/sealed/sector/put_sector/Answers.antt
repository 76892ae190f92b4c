use Rattle.std.proofs.lemmas.Result.{on_ok_weaker}
use Rattle.ckpt_log.proofs.SealedSectors.{written_is}
use Rattle.ckpt_log.proofs.sealed.sector.put_sector.Goals as goal

pub returns-clause-written : goal.returns-clause-written
returns-clause-written g c =
    on_ok_weaker c.sync.result
    (λ only. written_is {mid = (g.D.Device.disk c.write_sectors.new.device).seen} {new = (g.D.Device.disk c.sync.new.self).seen}
    {at = c.args.at}
    c.args.bytes.now c.sync.ensures.seen c.in_ok-write_sectors.ensures.written)
    c.sync.ensures.durable
