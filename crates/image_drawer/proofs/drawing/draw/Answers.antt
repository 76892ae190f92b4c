use Rattle.image_drawer.proofs.Names.{codes, refl, wrote_trans, err_from_is_err_and, line_of, arrow_lines, box_lines, graph_text, head_lines, owner_lines}
use Rattle.std.proofs.Common.{◌++◌}
use Rattle.image_drawer.proofs.Texts.{fails_after, fails_before, first_fails, fourth_written, second_fails, third_fails}
use Rattle.image_drawer.proofs.drawing.draw.Goals as goal

pub returns-in_err-write_fully : goal.returns-in_err-write_fully
unfolding graph_text
returns-in_err-write_fully g c =
    let p = err_from_is_err_and c.from_residual.result c.from_residual.ensures.1 in
    rw (p.1, p.2) (first_fails (head_lines ++ box_lines c.args.description.now) (owner_lines c.args.objects.now c.args.description.now)
    (arrow_lines c.args.description.now)
    (line_of (codes "}")) _ refl _ _ _ (fails_before _ _ _ _ (box_lines c.args.description.now) c.in_err-write_fully.ensures))

pub returns-in_err-draw_all_boxes : goal.returns-in_err-draw_all_boxes
unfolding graph_text
returns-in_err-draw_all_boxes g c =
    let p = err_from_is_err_and c.from_residual-in_err-draw_all_boxes.result c.from_residual-in_err-draw_all_boxes.ensures.1 in
    rw (p.1, p.2) (first_fails (head_lines ++ box_lines c.args.description.now) (owner_lines c.args.objects.now c.args.description.now)
    (arrow_lines c.args.description.now)
    (line_of (codes "}")) _ refl _ _ _
    (fails_after _ _ _ _ head_lines (box_lines c.args.description.now) c.in_ok-write_fully.ensures c.in_err-draw_all_boxes.ensures))

pub returns-in_err-draw_all_owners : goal.returns-in_err-draw_all_owners
unfolding graph_text
returns-in_err-draw_all_owners g c =
    let p = err_from_is_err_and c.from_residual-in_err-draw_all_owners.result c.from_residual-in_err-draw_all_owners.ensures.1 in
    rw (p.1, p.2) (second_fails (head_lines ++ box_lines c.args.description.now) (owner_lines c.args.objects.now c.args.description.now)
    (arrow_lines c.args.description.now)
    (line_of (codes "}")) _ refl _ _ _ _
    (wrote_trans _ _ _ head_lines (box_lines c.args.description.now) c.in_ok-write_fully.ensures c.in_ok-draw_all_boxes.ensures)
    c.in_err-draw_all_owners.ensures)

pub returns-in_err-draw_all_arrows : goal.returns-in_err-draw_all_arrows
unfolding graph_text
returns-in_err-draw_all_arrows g c =
    let p = err_from_is_err_and c.from_residual-in_err-draw_all_arrows.result c.from_residual-in_err-draw_all_arrows.ensures.1 in
    rw (p.1, p.2) (third_fails (head_lines ++ box_lines c.args.description.now) (owner_lines c.args.objects.now c.args.description.now)
    (arrow_lines c.args.description.now)
    (line_of (codes "}")) _ refl _ _ _ _ _
    (wrote_trans _ _ _ head_lines (box_lines c.args.description.now) c.in_ok-write_fully.ensures c.in_ok-draw_all_boxes.ensures)
    c.in_ok-draw_all_owners.ensures c.in_err-draw_all_arrows.ensures)

pub returns : goal.returns
unfolding graph_text
returns g c =
    fourth_written (head_lines ++ box_lines c.args.description.now) (owner_lines c.args.objects.now c.args.description.now)
    (arrow_lines c.args.description.now)
    (line_of (codes "}")) _ refl _ _ _ _ _ _
    (wrote_trans _ _ _ head_lines (box_lines c.args.description.now) c.in_ok-write_fully.ensures c.in_ok-draw_all_boxes.ensures)
    c.in_ok-draw_all_owners.ensures c.in_ok-draw_all_arrows.ensures c.write_fully-2.ensures
