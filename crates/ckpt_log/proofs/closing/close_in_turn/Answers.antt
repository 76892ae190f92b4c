use Rattle.ckpt_log.proofs.Names.{ap, is_open, gate_at}
use Rattle.std.proofs.Common.{◌∙◌}
use Rattle.ckpt_log.proofs.Closings.{first_run, second_run}
use Rattle.ckpt_log.proofs.Commits.{shut}
use Rattle.ckpt_log.proofs.Sectors.{seen_has}
use Rattle.ckpt_log.proofs.closing.close_in_turn.Goals as goal

pub returns-in_err-close_gate-clause-any_moment : goal.returns-in_err-close_gate-clause-any_moment
returns-in_err-close_gate-clause-any_moment g c =
    first_run c.args.slot {old = g.D.Device.disk c.args.device.now} {new = g.D.Device.disk c.close_gate.new.device}
    c.gate.ensures.value c.requires.lesser c.close_gate.ensures.any_moment

pub returns-clause-any_moment : goal.returns-clause-any_moment
returns-clause-any_moment g c =
    second_run c.args.slot {old = g.D.Device.disk c.args.device.now} {mid = g.D.Device.disk c.close_gate.new.device}
    {new = g.D.Device.disk c.close_gate-2.new.device}
    c.gate.ensures.value (c.gate-2.ensures.value ∙ ap gate_at c.other.ensures) c.requires.lesser c.close_gate.ensures.elsewhere
    (ap is_open c.in_ok-close_gate.ensures.closed ∙ shut ((g.D.Device.disk c.args.device.now).seen c.gate.result))
    (first_run c.args.slot {old = g.D.Device.disk c.args.device.now} {new = g.D.Device.disk c.close_gate.new.device}
    c.gate.ensures.value c.requires.lesser c.close_gate.ensures.any_moment) c.close_gate-2.ensures.any_moment

pub returns-clause-seen : goal.returns-clause-seen
returns-clause-seen g c =
    seen_has (returns-clause-any_moment g c) (g.met.D.Device.counts_now c.close_gate-2.new.device)
    (g.met.D.Device.seen_left c.close_gate-2.new.device)
