use Rattle.image_drawer.proofs.Names.{[], codes, decimal, err_from_is_err_and, spaced, text_fails, writes_fail, next_line, plain_lines, process_box}
use Rattle.image_drawer.proofs.Names.{word_of_state}
use Rattle.std.proofs.Common.{◌∷◌, ◌++◌}
use Rattle.image_drawer.proofs.Texts.{box_pieces, fails_before, three_written}
use Rattle.image_drawer.proofs.part.ProcessEntryPart.draw_box.Goals as goal

pub returns-in_err-write_fully : goal.returns-in_err-write_fully
unfolding process_box
returns-in_err-write_fully g c =
    let p = err_from_is_err_and c.from_residual.result c.from_residual.ensures.1 in
    rw (p.1, p.2) (text_fails _ _ _ _ _ _
    (box_pieces c.args.self.now.root
    (spaced (codes "process" ∷ decimal c.args.self.now.root ∷ codes "annex" ∷ decimal c.args.self.now.annex ∷ []) ++ next_line
    (spaced (word_of_state c.args.self.now.state ∷ codes "key" ∷ decimal c.args.self.now.key ∷ [])))
    (plain_lines (codes "r") c.args.self.now.registers.items) (codes "ellipse"))
    (fails_before _ _ _ _ _ (rw (c.as_bytes.ensures, c.begin_process.ensures.text) at c.in_err-write_fully.ensures)))

pub returns-in_err-draw_plain_slots : goal.returns-in_err-draw_plain_slots
unfolding process_box
returns-in_err-draw_plain_slots g c =
    let p = err_from_is_err_and c.from_residual-in_err-draw_plain_slots.result c.from_residual-in_err-draw_plain_slots.ensures.1 in
    rw (p.1, p.2) (writes_fail _ _ _ _ _ _ _ _
    (box_pieces c.args.self.now.root
    (spaced (codes "process" ∷ decimal c.args.self.now.root ∷ codes "annex" ∷ decimal c.args.self.now.annex ∷ []) ++ next_line
    (spaced (word_of_state c.args.self.now.state ∷ codes "key" ∷ decimal c.args.self.now.key ∷ [])))
    (plain_lines (codes "r") c.args.self.now.registers.items) (codes "ellipse"))
    (rw (c.as_bytes.ensures, c.begin_process.ensures.text) at c.in_ok-write_fully.ensures)
    (rw c.as_slice.ensures.value at c.in_err-draw_plain_slots.ensures))

pub returns : goal.returns
unfolding process_box
returns g c =
    three_written _ _ _ _ _ _ _ _ _
    (box_pieces c.args.self.now.root
    (spaced (codes "process" ∷ decimal c.args.self.now.root ∷ codes "annex" ∷ decimal c.args.self.now.annex ∷ []) ++ next_line
    (spaced (word_of_state c.args.self.now.state ∷ codes "key" ∷ decimal c.args.self.now.key ∷ [])))
    (plain_lines (codes "r") c.args.self.now.registers.items) (codes "ellipse"))
    (rw (c.as_bytes.ensures, c.begin_process.ensures.text) at c.in_ok-write_fully.ensures)
    (rw c.as_slice.ensures.value at c.in_ok-draw_plain_slots.ensures)
    c.write_fully-2.ensures
