use Rattle.std.proofs.Common.{◌+◌, ◌-◌, ◌*◌, drop, length, take}
use Rattle.ckpt_log.proofs.SealedDirectories.{found_next, none_next}
use Rattle.ckpt_log.proofs.sealed.directory.read_next.Goals as goal

pub returns-clause-some : goal.returns-clause-some
returns-clause-some g c =
    let e = c.piece_end-end in
    found_next c.args.into.now c.read_piece.new.into c.args.k e.result e.ensures.after e.ensures.few e.ensures.inside e.ensures.whole
    c.read_piece.result ((g.D.Device.disk c.args.device.now).seen (c.args.at + c.args.k))
    (length (take (e.result - 30 * c.args.k) (drop (30 * c.args.k) c.args.into.now))) c.read_piece.auto.into c.read_piece.ensures.found

pub returns-clause-none : goal.returns-clause-none
returns-clause-none g c =
    let e = c.piece_end-end in
    none_next c.args.into.now c.read_piece.new.into c.args.k e.result e.ensures.after e.ensures.few e.ensures.inside e.ensures.whole
    c.read_piece.result ((g.D.Device.disk c.args.device.now).seen (c.args.at + c.args.k)) c.read_piece.ensures.found
