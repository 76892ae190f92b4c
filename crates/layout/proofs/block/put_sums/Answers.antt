use Rattle.layout.proofs.Names.{arith}
use Rattle.layout.proofs.Summed.{put_frame_stays}
use Rattle.layout.proofs.block.put_sums.Goals as goal

pub returns-then-shape-clause-frame : goal.returns-then-shape-clause-frame
returns-then-shape-clause-frame c =
    put_frame_stays c.args.shape c.args.header c.args.block.now c.seal_page.new.frame c.if-shape.true (c.requires.page c.if-shape.true)
    c.requires.size c.seal_page.ensures.header c.seal_page.ensures.words (omega (arith, c.requires.size)) (c.requires.front c.if-shape.true)
