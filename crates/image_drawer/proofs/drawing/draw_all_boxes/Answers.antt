use Rattle.image_drawer.proofs.Names.{refl, flat_map, bank_box, node_box, page_box, process_box, err_from_is_err_and}
use Rattle.image_drawer.proofs.Texts.{first_fails, fourth_written, second_fails, third_fails}
use Rattle.image_drawer.proofs.drawing.draw_all_boxes.Goals as goal

pub returns-in_err-draw_boxes : goal.returns-in_err-draw_boxes
returns-in_err-draw_boxes g c =
    let p = err_from_is_err_and c.from_residual.result c.from_residual.ensures.1 in
    rw (p.1, p.2) (first_fails (flat_map bank_box c.args.description.now.banks.items)
    (flat_map process_box c.args.description.now.processes.items)
    (flat_map node_box c.args.description.now.nodes.items) (flat_map page_box c.args.description.now.pages.items) _ refl _ _ _
    (rw c.as_slice.ensures.value at c.in_err-draw_boxes.ensures))

pub returns-in_err-draw_boxes-2 : goal.returns-in_err-draw_boxes-2
returns-in_err-draw_boxes-2 g c =
    let p = err_from_is_err_and c.from_residual-in_err-draw_boxes-2.result c.from_residual-in_err-draw_boxes-2.ensures.1 in
    rw (p.1, p.2) (second_fails (flat_map bank_box c.args.description.now.banks.items)
    (flat_map process_box c.args.description.now.processes.items)
    (flat_map node_box c.args.description.now.nodes.items) (flat_map page_box c.args.description.now.pages.items) _ refl _ _ _ _
    (rw c.as_slice.ensures.value at c.in_ok-draw_boxes.ensures) (rw c.as_slice-2.ensures.value at c.in_err-draw_boxes-2.ensures))

pub returns-in_err-draw_boxes-3 : goal.returns-in_err-draw_boxes-3
returns-in_err-draw_boxes-3 g c =
    let p = err_from_is_err_and c.from_residual-in_err-draw_boxes-3.result c.from_residual-in_err-draw_boxes-3.ensures.1 in
    rw (p.1, p.2) (third_fails (flat_map bank_box c.args.description.now.banks.items)
    (flat_map process_box c.args.description.now.processes.items)
    (flat_map node_box c.args.description.now.nodes.items) (flat_map page_box c.args.description.now.pages.items) _ refl _ _ _ _ _
    (rw c.as_slice.ensures.value at c.in_ok-draw_boxes.ensures)
    (rw c.as_slice-2.ensures.value at c.in_ok-draw_boxes-2.ensures) (rw c.as_slice-3.ensures.value at c.in_err-draw_boxes-3.ensures))

pub returns : goal.returns
returns g c =
    fourth_written (flat_map bank_box c.args.description.now.banks.items) (flat_map process_box c.args.description.now.processes.items)
    (flat_map node_box c.args.description.now.nodes.items) (flat_map page_box c.args.description.now.pages.items) _ refl _ _ _ _ _ _
    (rw c.as_slice.ensures.value at c.in_ok-draw_boxes.ensures)
    (rw c.as_slice-2.ensures.value at c.in_ok-draw_boxes-2.ensures) (rw c.as_slice-3.ensures.value at c.in_ok-draw_boxes-3.ensures)
    (rw c.as_slice-4.ensures.value at c.draw_boxes-4.ensures)
