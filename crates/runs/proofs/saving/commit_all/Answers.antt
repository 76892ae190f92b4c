use Rattle.runs.proofs.Names.{err_from_is_err_and, inl, inr, refl}
use Rattle.runs.proofs.saving.commit_all.Goals as goal

pub returns-in_err-carry_out-2 : goal.returns-in_err-carry_out-2
returns-in_err-carry_out-2 g c =
    let p = err_from_is_err_and c.from_residual-in_err-carry_out-2.result c.from_residual-in_err-carry_out-2.ensures.1 in
    rw (p.1, p.2) (inr (
      c.carry_out.new.kernel,
      c.in_ok-carry_out.field-0,
      c.in_ok-carry_out.ensures,
      inl (c.in_err-carry_out-2.field-0.0, refl, c.in_err-carry_out-2.ensures),
    ))

pub returns-in_err-carry_out-3 : goal.returns-in_err-carry_out-3
returns-in_err-carry_out-3 g c =
    let p = err_from_is_err_and c.from_residual-in_err-carry_out-3.result c.from_residual-in_err-carry_out-3.ensures.1 in
    rw (p.1, p.2) (inr (
      c.carry_out.new.kernel,
      c.in_ok-carry_out.field-0,
      c.in_ok-carry_out.ensures,
      inr (
        c.carry_out-2.new.kernel,
        c.in_ok-carry_out-2.field-0,
        c.in_ok-carry_out-2.ensures,
        inl (c.in_err-carry_out-3.field-0.0, refl, c.in_err-carry_out-3.ensures),
      ),
    ))

pub returns : goal.returns
returns g c = inr (
  c.carry_out.new.kernel,
  c.in_ok-carry_out.field-0,
  c.in_ok-carry_out.ensures,
  inr (
    c.carry_out-2.new.kernel,
    c.in_ok-carry_out-2.field-0,
    c.in_ok-carry_out-2.ensures,
    inr (c.carry_out-3.new.kernel, c.in_ok-carry_out-3.field-0, c.in_ok-carry_out-3.ensures, c.carry_out-4.ensures),
  ),
)
