use Rattle.layout.proofs.Names.{length, sym, ap, arith, err_from_is_err_and}
use Rattle.std.proofs.Common.{◌*◌, ◌∙◌}
use Rattle.layout.proofs.SlotLists.{none_read, slot_read, none_spelt, piece_is}
use Rattle.layout.proofs.slots.decode_slots.Goals as goal

pub loop-i-init : goal.loop-i-init
loop-i-init c = none_read c.args.geometry c.args.age c.args.bytes.now c.args.into.now c.as_slice-i-end.ensures.length

pub returns-in_err-cap-clause-refused : goal.returns-in_err-cap-clause-refused
returns-in_err-cap-clause-refused c =
    let p = err_from_is_err_and c.from_residual.result c.from_residual.ensures.1 in
    let refused = c.in_err-cap.ensures.refused in
    rw (p.1) (
      p.2 ∙ refused.0,
      none_spelt c.args.geometry c.args.age c.args.bytes.now c.loop-i.i
          (omega (arith, c.as_slice-i-end.ensures.length, ap length c.as_slice-i-end.ensures.value))
          (λ cap fits e. refused.1 cap fits (piece_is c.args.bytes.now (24 * c.loop-i.i) ∙ e)),
    )

pub loop-i-preserved : goal.loop-i-preserved
loop-i-preserved c =
    let found = c.in_ok-cap.ensures.found in
    rw (c.set.ensures.set)
    (slot_read c.args.geometry c.args.age c.args.bytes.now c.loop-i.into c.loop-i.i c.in_ok-cap.cap
    (omega (arith, c.as_slice-i-end.ensures.length, ap length c.as_slice-i-end.ensures.value)) c.loop-i.invariant found.0
    (sym (piece_is c.args.bytes.now (24 * c.loop-i.i)) ∙ found.1))
