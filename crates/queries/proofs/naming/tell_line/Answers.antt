use Rattle.std.proofs.Common.{Some, append_assoc, codes, decimal, ◌++◌, ◌∷◌, ◌≡◌, ℕ, List, []}
use Rattle.std.proofs.lemmas.Result.{err_from_is_err_and}
use Rattle.image_drawer.proofs.Texts.{fails_before, three_written}
use Rattle.model.specs.Text.{line_of, spaced}
use Rattle.script.proofs.Fronts.{text_fails, writes_fail}
use Rattle.queries.specs.Naming.{named_line}
use Rattle.queries.proofs.naming.tell_line.Goals as goal

pieces : (name : List ℕ) (n : ℕ) → named_line name (Some n) ≡ (codes "# " ++ name) ++ line_of (spaced (codes " =" ∷ decimal n ∷ []))
pieces name n = simp append_assoc

pub returns-in_err-write_fully : goal.returns-in_err-write_fully
returns-in_err-write_fully g c =
    let p = err_from_is_err_and c.from_residual.result c.from_residual.ensures.1 in
    rw (p.1, p.2) (text_fails _ _ _ _ _ _ (pieces c.args.name.now c.args.number)
    (fails_before _ _ _ _ c.args.name.now c.in_err-write_fully.ensures))

pub returns-in_err-write_fully-2 : goal.returns-in_err-write_fully-2
returns-in_err-write_fully-2 g c =
    let p = err_from_is_err_and c.from_residual-in_err-write_fully-2.result c.from_residual-in_err-write_fully-2.ensures.1 in
    rw (p.1, p.2) (writes_fail _ _ _ _ _ _ _ _ (pieces c.args.name.now c.args.number) c.in_ok-write_fully.ensures
    c.in_err-write_fully-2.ensures)

pub returns : goal.returns
returns g c =
    three_written _ _ _ _ _ _ _ _ _ (pieces c.args.name.now c.args.number) c.in_ok-write_fully.ensures c.in_ok-write_fully-2.ensures
    (rw c.numbered.ensures.text at c.print.ensures)
