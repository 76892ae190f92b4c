use Rattle.image_writer.proofs.Names.{IsBeforeOrNone, inl, inr, leaves_weaker, row, cases_Bool, WasKeptOrHasNone}
use Rattle.ckpt_log.specs.Closing.{WasKeptOrHasNone as WasKeptPlain}
use Rattle.image_writer.proofs.OldGates.{before_plain, before_sealed, closed_ok}
use Rattle.image_writer.proofs.closing.close_named.Goals as goal

pub returns-clause-closed : goal.returns-clause-closed
returns-clause-closed g c =
    closed_ok c.close_gates_of.result c.args.version (g.D.Device.disk c.close_gates_of.new.device).seen c.close_gates_of.ensures.closed
    c.close_gates_of.ensures.sealed_closed

pub returns-clause-any_moment : goal.returns-clause-any_moment
returns-clause-any_moment g c =
    let v = c.args.version in
    let old = g.D.Device.disk c.args.device.now in
    let new = g.D.Device.disk c.close_gates_of.new.device in
    elim (cases_Bool (row v).sealed) [
      | inl sealed ↦
          leaves_weaker {old = old} {new = new} {P = λ x. WasKeptOrHasNone v old x} (λ x. IsBeforeOrNone old x)
          (before_sealed v old c.requires.durable c.requires.named sealed) c.close_gates_of.ensures.any_moment
      | inr plain ↦
          leaves_weaker {old = old} {new = new} {P = λ x. WasKeptPlain old x} (λ x. IsBeforeOrNone old x)
          (before_plain v old c.requires.durable c.requires.named plain) (c.close_gates_of.ensures.plain_moment plain)
    ]
