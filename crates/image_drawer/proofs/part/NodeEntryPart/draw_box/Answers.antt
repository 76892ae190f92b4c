use Rattle.image_drawer.proofs.Names.{[], codes, decimal, err_from_is_err_and, spaced, text_fails, writes_fail, node_box, plain_lines}
use Rattle.std.proofs.Common.{◌∷◌}
use Rattle.image_drawer.proofs.Texts.{box_pieces, fails_before, three_written}
use Rattle.image_drawer.proofs.part.NodeEntryPart.draw_box.Goals as goal

pub returns-in_err-write_fully : goal.returns-in_err-write_fully
unfolding node_box
returns-in_err-write_fully g c =
    let p = err_from_is_err_and c.from_residual.result c.from_residual.ensures.1 in
    rw (p.1, p.2) (text_fails _ _ _ _ _ _
    (box_pieces c.args.self.now.number (spaced (codes "node" ∷ decimal c.args.self.now.number ∷ []))
    (plain_lines (codes "s") c.args.self.now.slots.items)
    (codes "box"))
    (fails_before _ _ _ _ _ (rw (c.as_bytes.ensures, c.begin_node.ensures.text) at c.in_err-write_fully.ensures)))

pub returns-in_err-draw_plain_slots : goal.returns-in_err-draw_plain_slots
unfolding node_box
returns-in_err-draw_plain_slots g c =
    let p = err_from_is_err_and c.from_residual-in_err-draw_plain_slots.result c.from_residual-in_err-draw_plain_slots.ensures.1 in
    rw (p.1, p.2) (writes_fail _ _ _ _ _ _ _ _
    (box_pieces c.args.self.now.number (spaced (codes "node" ∷ decimal c.args.self.now.number ∷ []))
    (plain_lines (codes "s") c.args.self.now.slots.items)
    (codes "box"))
    (rw (c.as_bytes.ensures, c.begin_node.ensures.text) at c.in_ok-write_fully.ensures)
    (rw c.as_slice.ensures.value at c.in_err-draw_plain_slots.ensures))

pub returns : goal.returns
unfolding node_box
returns g c =
    three_written _ _ _ _ _ _ _ _ _
    (box_pieces c.args.self.now.number (spaced (codes "node" ∷ decimal c.args.self.now.number ∷ []))
    (plain_lines (codes "s") c.args.self.now.slots.items)
    (codes "box"))
    (rw (c.as_bytes.ensures, c.begin_node.ensures.text) at c.in_ok-write_fully.ensures)
    (rw c.as_slice.ensures.value at c.in_ok-draw_plain_slots.ensures)
    c.write_fully-2.ensures
