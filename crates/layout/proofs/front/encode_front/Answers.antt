use Rattle.layout.proofs.Numbers.{written_none, written_more}
use Rattle.layout.proofs.Frames.{front_written}
use Rattle.layout.proofs.front.encode_front.Goals as goal

pub returns : goal.returns
returns c =
    let old = c.args.into.now in
    front_written old c.put_number-4.new.bytes c.number.result c.args.header c.number.ensures
    (written_more old _ _ _ 24 _ (written_more old _ _ _ 16 _ (written_more old _ _ _ 8 _ (written_more old _ _ _ 0 _ (written_none old)
    c.put_number.ensures.before c.put_number.ensures.after)
    c.put_number-2.ensures.before c.put_number-2.ensures.after)
    c.put_number-3.ensures.before c.put_number-3.ensures.after)
    c.put_number-4.ensures.before c.put_number-4.ensures.after)
