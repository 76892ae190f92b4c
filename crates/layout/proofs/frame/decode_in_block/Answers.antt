use Rattle.layout.proofs.Names.{frame_of}
use Rattle.layout.proofs.Blocks.{page_found, page_refused}
use Rattle.layout.proofs.frame.decode_in_block.Goals as goal

pub returns-else-shape-clause-found : goal.returns-else-shape-clause-found
returns-else-shape-clause-found c =
    page_found c.args.geometry c.args.number c.args.age c.args.shape c.args.block.now c.requires.shape c.if-number-geometry.false
    c.requires.size c.if-shape.false
    c.decode_frame-else-shape.result (λ read. frame_of read c.decode_frame-else-shape.new.scratch)
    c.decode_frame-else-shape.ensures.found

pub returns-else-shape-clause-refused : goal.returns-else-shape-clause-refused
returns-else-shape-clause-refused c =
    page_refused c.args.geometry c.args.number c.args.age c.args.shape c.args.block.now c.requires.shape c.if-number-geometry.false
    c.requires.size c.if-shape.false
    c.decode_frame-else-shape.result c.decode_frame-else-shape.ensures.refused
