use Rattle.layout.proofs.Names.{ap, zeros}
use Rattle.std.proofs.Common.{◌∙◌}
use Rattle.layout.proofs.Numbers.{written_none, written_more}
use Rattle.layout.proofs.Headers.{header_written}
use Rattle.layout.proofs.header.encode_header.Goals as goal

pub returns : goal.returns
returns c =
    let filled = c.blank.new.bytes in
    header_written filled c.put_number-5.new.bytes c.args.header (c.blank.ensures ∙ ap zeros c.requires)
    (written_more filled _ _ _ 32 _
    (written_more filled _ _ _ 24 _ (written_more filled _ _ _ 16 _ (written_more filled _ _ _ 8 _
    (written_more filled _ _ _ 0 _ (written_none filled)
    c.put_number.ensures.before c.put_number.ensures.after)
    c.put_number-2.ensures.before c.put_number-2.ensures.after)
    c.put_number-3.ensures.before c.put_number-3.ensures.after)
    c.put_number-4.ensures.before c.put_number-4.ensures.after)
    c.put_number-5.ensures.before c.put_number-5.ensures.after)
