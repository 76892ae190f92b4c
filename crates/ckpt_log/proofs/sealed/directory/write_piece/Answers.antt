use Rattle.std.proofs.Common.{refl, ◌∙◌}
use Rattle.ckpt_log.proofs.SealedSectors.{written_is}
use Rattle.ckpt_log.proofs.sealed.directory.write_piece.Goals as goal

pub returns-clause-written : goal.returns-clause-written
returns-clause-written g c =
    written_is {mid = (g.D.Device.disk c.write_sectors.new.device).seen} {new = (g.D.Device.disk c.write_sectors.new.device).seen}
    {at = c.args.at}
    c.encode_entries.new.into (λ i. refl) c.in_ok-write_sectors.ensures.written ∙ c.encode_entries.ensures
