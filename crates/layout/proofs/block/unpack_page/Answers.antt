use Rattle.layout.proofs.Names.{sym, ap, Bool, blanked}
use Rattle.std.proofs.Common.{◌∙◌}
use Rattle.layout.proofs.Blanked.{unblanked}
use Rattle.layout.proofs.Blocks.{page_unpacked, page_whole}
use Rattle.layout.proofs.block.unpack_page.Goals as goal

pub returns-then-shape : goal.returns-then-shape
returns-then-shape c =
    page_unpacked c.args.shape c.args.block.now c.copy_from_slice.new.self c.blank.new.bytes c.requires.shape c.if-shape.true
    c.requires.block c.copy_from_slice.ensures.after c.blank.ensures

pub returns-else-shape : goal.returns-else-shape
returns-else-shape c =
    c.copy_from_slice.ensures.after
    ∙ sym (page_whole c.args.shape c.args.block.now c.requires.shape c.requires.block
    ∙ ap (λ (b : Bool). blanked b c.args.block.now) c.if-shape.false ∙ unblanked c.args.block.now)
