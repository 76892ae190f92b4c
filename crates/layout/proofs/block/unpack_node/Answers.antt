use Rattle.layout.proofs.Blocks.{unpacked}
use Rattle.layout.proofs.block.unpack_node.Goals as goal

pub returns : goal.returns
returns c =
    unpacked c.args.shape c.args.block.now c.args.node.now c.copy_from_slice.new.self c.blank_from.new.bytes c.requires.block
    c.requires.shape c.requires.plain c.requires.node
    c.copy_from_slice.ensures.after c.blank_from.ensures
