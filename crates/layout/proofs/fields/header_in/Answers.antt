use Rattle.layout.proofs.Names.{drop, sym, arith}
use Rattle.layout.proofs.FrameReaders.{front_tells}
use Rattle.layout.proofs.fields.header_in.Goals as goal

pub returns : goal.returns
returns c =
    sym (front_tells c.decode_front.result.0 c.decode_front.result.1 c.args.bytes.now (drop 32 c.args.bytes.now)
    (omega arith, (omega arith, (omega arith, (omega arith, tt))))
    (sym c.decode_front.ensures.role) c.decode_front.ensures.bytes).header_is
