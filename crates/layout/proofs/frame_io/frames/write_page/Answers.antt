use Rattle.layout.proofs.Names.{arith, ap, take}
use Rattle.std.proofs.Common.{◌∙◌}
use Rattle.layout.proofs.Blanked.{page_front}
use Rattle.layout.proofs.Summed.{page_there, page_summed_there}
use Rattle.model.specs.declared.object.Content.TheVariants as content
use Rattle.layout.proofs.frame_io.frames.write_page.Goals as goal

pub put_sums-requires-clause-front : goal.put_sums-requires-clause-front
put_sums-requires-clause-front g c = λ has.
    ap (take 32) c.encode_page.ensures ∙ page_front (record { header = c.args.header; content = content.Page c.args.words.now })

pub returns-clause-written : goal.returns-clause-written
returns-clause-written g c =
    page_there c.write_sectors.result (g.D.Device.disk c.write_sectors.new.device).seen c.args.at c.args.shape
    (record { header = c.args.header; content = content.Page c.args.words.now }) c.encode_page.new.into c.put_sums.new.block
    c.requires.shape (omega arith) c.encode_page.ensures c.put_sums.ensures.frame c.write_sectors.ensures.written

pub returns-clause-summed : goal.returns-clause-summed
returns-clause-summed g c =
    page_summed_there c.write_sectors.result (g.D.Device.disk c.write_sectors.new.device).seen c.args.at c.args.shape c.put_sums.new.block
    c.requires.shape c.write_sectors.ensures.written c.put_sums.ensures.summed
