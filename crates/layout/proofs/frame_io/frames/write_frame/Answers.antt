use Rattle.layout.proofs.Names.{arith, refl, replicate, content_behind}
use Rattle.std.proofs.Common.{◌*◌, ◌∙◌}
use Rattle.layout.proofs.Blocks.{frame_there, zeros_there, alone_written}
use Rattle.layout.proofs.Summed.{frame_front, sums_are_pages, summed_there, zeros_stay}
use Rattle.layout.proofs.frame_io.frames.write_frame.Goals as goal

pub put_sums-requires-clause-front : goal.put_sums-requires-clause-front
put_sums-requires-clause-front g c = λ has.
    frame_front c.args.geometry c.args.number c.args.shape (record { header = c.args.header; content = content_behind c.args.content })
    c.put_frame.new.block c.requires.shape c.put_frame.ensures.size c.put_frame.ensures.put has

pub returns-clause-written : goal.returns-clause-written
returns-clause-written g c =
    frame_there c.write_sectors.result (g.D.Device.disk c.write_sectors.new.device).seen c.args.at (512 * c.args.shape.sectors) c.args.shape
    c.put_sums.new.block
    c.requires.shape.inside c.write_sectors.ensures.written (c.put_sums.ensures.frame ∙ c.put_frame.ensures.put)

pub returns-clause-beside : goal.returns-clause-beside
returns-clause-beside g c =
    zeros_there c.write_sectors.result (g.D.Device.disk c.write_sectors.new.device).seen c.args.at (512 * c.args.shape.sectors) c.args.shape
    c.put_sums.new.block
    c.write_sectors.ensures.written
    (zeros_stay c.args.geometry c.args.number c.args.shape c.put_frame.new.block c.put_sums.new.block c.requires.shape
    c.put_sums.ensures.plain (omega (arith, c.put_frame.ensures.size))
    (alone_written c.args.shape (replicate 4608 0) c.put_frame.new.block (512 * c.args.shape.sectors)
    (omega (arith, c.put_frame.ensures.size, c.requires.shape.few)) c.requires.shape.inside (omega (arith, c.requires.shape.few)) refl
    c.put_frame.ensures.before c.put_frame.ensures.behind))

pub returns-clause-summed : goal.returns-clause-summed
returns-clause-summed g c =
    summed_there c.write_sectors.result (g.D.Device.disk c.write_sectors.new.device).seen c.args.at c.args.shape c.put_sums.new.block
    (λ has. c.requires.shape.page (sums_are_pages c.args.geometry c.args.number c.args.shape c.requires.shape has))
    (omega (arith, c.put_frame.ensures.size)) c.write_sectors.ensures.written c.put_sums.ensures.summed
