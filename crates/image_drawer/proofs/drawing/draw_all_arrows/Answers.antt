use Rattle.image_drawer.proofs.Names.{flat_map, flat_map-append, err_from_is_err_and, text_fails, arrow_line, node_arrows, process_arrows}
use Rattle.image_drawer.proofs.Texts.{two_written}
use Rattle.image_drawer.proofs.drawing.draw_all_arrows.Goals as goal

pub returns-in_err-draw_arrows : goal.returns-in_err-draw_arrows
returns-in_err-draw_arrows g c =
    let p = err_from_is_err_and c.from_residual.result c.from_residual.ensures.1 in
    rw (p.1, p.2) (text_fails _ _ _ _ _ _
    (flat_map-append arrow_line (flat_map process_arrows c.args.description.now.processes.items)
    (flat_map node_arrows c.args.description.now.nodes.items))
    (rw c.as_slice.ensures.value at c.in_err-draw_arrows.ensures))

pub returns : goal.returns
returns g c =
    two_written _ _ _ _ _ _ _
    (flat_map-append arrow_line (flat_map process_arrows c.args.description.now.processes.items)
    (flat_map node_arrows c.args.description.now.nodes.items))
    (rw c.as_slice.ensures.value at c.in_ok-draw_arrows.ensures) (rw c.as_slice-2.ensures.value at c.draw_arrows-2.ensures)
