use Rattle.ckpt_log.proofs.Names.{length, on_ok_weaker}
use Rattle.ckpt_log.proofs.Directories.{entries_written, zeros_behind}
use Rattle.ckpt_log.proofs.log.Log.write_entries.Goals as goal

pub returns-clause-written : goal.returns-clause-written
returns-clause-written g c =
    on_ok_weaker c.write_sectors.result
    (λ written. entries_written (g.D.Device.disk c.write_sectors.new.device).seen c.args.at (length c.args.entries.now)
    c.directory_length-sectors.ensures.value written c.put_entries.ensures.front)
    c.write_sectors.ensures.written

pub returns-clause-rest : goal.returns-clause-rest
returns-clause-rest g c =
    on_ok_weaker c.write_sectors.result
    (λ written. zeros_behind (g.D.Device.disk c.write_sectors.new.device).seen c.args.at (length c.args.entries.now)
    c.directory_length-sectors.ensures.value c.requires.room c.requires.zeros written
    c.put_entries.ensures.rest)
    c.write_sectors.ensures.written

pub returns-clause-writes : goal.returns-clause-writes
returns-clause-writes g c = rw c.directory_length-sectors.ensures.value at c.write_sectors.ensures.writes
