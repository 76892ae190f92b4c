use Rattle.ckpt_log.proofs.Commits.{closing_keeps, header_keeps, precedes_on, keeps_on, gate_is, header_is, shut_gate}
use Rattle.ckpt_log.proofs.Runs.{closing_run, header_run}
use Rattle.ckpt_log.proofs.publish.prepare.Goals as goal

pub returns-in_err-close_gate-clause-any_moment : goal.returns-in_err-close_gate-clause-any_moment
returns-in_err-close_gate-clause-any_moment g c =
    closing_run (gate_is c.args.header c.of-slot.result c.of-slot.ensures.value c.gate.ensures.value) c.requires.next
    c.close_gate.ensures.any_moment

pub returns-in_err-close_gate-clause-keeps : goal.returns-in_err-close_gate-clause-keeps
returns-in_err-close_gate-clause-keeps g c =
    let place = gate_is c.args.header c.of-slot.result c.of-slot.ensures.value c.gate.ensures.value in
    closing_keeps c.requires.next (rw place at c.close_gate.ensures.elsewhere) (rw place at c.close_gate.ensures.closed_before)

pub returns-clause-keeps : goal.returns-clause-keeps
returns-clause-keeps g c =
    let place = gate_is c.args.header c.of-slot.result c.of-slot.ensures.value c.gate.ensures.value in
    let elsewhere = rw place at c.close_gate.ensures.elsewhere in
    let same = rw place at c.close_gate.ensures.closed_before in
    let closed = rw place at c.in_ok-close_gate.ensures.closed in
    let written = rw (header_is c.args.header c.of-slot.result c.of-slot.ensures.value c.header.ensures.value) at
    c.put_sector.ensures.elsewhere in
    let first = closing_keeps c.requires.next elsewhere same in
    let next = precedes_on c.requires.next first in
    keeps_on first (header_keeps next
    (shut_gate (g.D.Device.disk c.args.device.now).seen (g.D.Device.disk c.close_gate.new.device).seen c.args.header closed) written)

pub returns-clause-any_moment : goal.returns-clause-any_moment
returns-clause-any_moment g c =
    let place = gate_is c.args.header c.of-slot.result c.of-slot.ensures.value c.gate.ensures.value in
    let elsewhere = rw place at c.close_gate.ensures.elsewhere in
    let same = rw place at c.close_gate.ensures.closed_before in
    let closed = rw place at c.in_ok-close_gate.ensures.closed in
    let kept = closing_keeps c.requires.next elsewhere same in
    let first = closing_run place c.requires.next c.close_gate.ensures.any_moment in
    header_run (header_is c.args.header c.of-slot.result c.of-slot.ensures.value c.header.ensures.value)
    c.requires.next kept (shut_gate (g.D.Device.disk c.args.device.now).seen (g.D.Device.disk c.close_gate.new.device).seen c.args.header
    closed) first
    c.put_sector.ensures.any_moment
