use Rattle.ckpt_log.proofs.Names.{sym, on_ok_weaker}
use Rattle.ckpt_log.proofs.Sectors.{sector_is}
use Rattle.ckpt_log.proofs.sector.put_sector.Goals as goal

pub returns-clause-written : goal.returns-clause-written
returns-clause-written g c =
    on_ok_weaker c.write_durably.result (λ holds. sym (sector_is (g.D.Device.disk c.write_durably.new.device).seen c.requires.one
    holds.whole))
    c.write_durably.ensures.written
