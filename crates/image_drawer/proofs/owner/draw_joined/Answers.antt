use Rattle.image_drawer.proofs.Names.{codes, decimal, err_from_is_err_and}
use Rattle.image_drawer.proofs.Rectangles.{line_pieces}
use Rattle.image_drawer.proofs.Texts.{first_fails, fourth_written, second_fails, third_fails}
use Rattle.image_drawer.specs.Rectangles.{ends, starts}
use Rattle.model.specs.Bank.{chain_within}
use Rattle.image_drawer.proofs.owner.draw_joined.Goals as goal

pub returns-in_err-start_rectangles : goal.returns-in_err-start_rectangles
returns-in_err-start_rectangles g c =
    let p = err_from_is_err_and c.from_residual.result c.from_residual.ensures.1 in
    let banks = chain_within 16 c.args.objects.now c.args.owner in
    rw (p.1, p.2) (first_fails (starts banks) (decimal c.args.number) (ends banks) (codes "\n") _
    (line_pieces c.args.objects.now c.args.owner c.args.number) _ _ _ c.in_err-start_rectangles.ensures)

pub returns-in_err-write_fully : goal.returns-in_err-write_fully
returns-in_err-write_fully g c =
    let p = err_from_is_err_and c.from_residual-in_err-write_fully.result c.from_residual-in_err-write_fully.ensures.1 in
    let banks = chain_within 16 c.args.objects.now c.args.owner in
    rw (p.1, p.2) (second_fails (starts banks) (decimal c.args.number) (ends banks) (codes "\n") _
    (line_pieces c.args.objects.now c.args.owner c.args.number) _ _ _ _ c.in_ok-start_rectangles.ensures
    (rw (c.as_bytes.ensures, c.begin.ensures.text) at c.in_err-write_fully.ensures))

pub returns-in_err-end_rectangles : goal.returns-in_err-end_rectangles
returns-in_err-end_rectangles g c =
    let p = err_from_is_err_and c.from_residual-in_err-end_rectangles.result c.from_residual-in_err-end_rectangles.ensures.1 in
    let banks = chain_within 16 c.args.objects.now c.args.owner in
    rw (p.1, p.2) (third_fails (starts banks) (decimal c.args.number) (ends banks) (codes "\n") _
    (line_pieces c.args.objects.now c.args.owner c.args.number) _ _ _ _ _ c.in_ok-start_rectangles.ensures
    (rw (c.as_bytes.ensures, c.begin.ensures.text) at c.in_ok-write_fully.ensures) c.in_err-end_rectangles.ensures)

pub returns : goal.returns
returns g c =
    let banks = chain_within 16 c.args.objects.now c.args.owner in
    fourth_written (starts banks) (decimal c.args.number) (ends banks) (codes "\n") _
    (line_pieces c.args.objects.now c.args.owner c.args.number) _ _ _ _ _ _ c.in_ok-start_rectangles.ensures
    (rw (c.as_bytes.ensures, c.begin.ensures.text) at c.in_ok-write_fully.ensures) c.in_ok-end_rectangles.ensures c.write_fully-2.ensures
