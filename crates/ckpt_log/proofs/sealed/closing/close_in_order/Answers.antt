use Rattle.std.proofs.lemmas.Result.{on_ok_weaker}
use Rattle.device.specs.Disk.{Image}
use Rattle.ckpt_log.specs.sealed.Closing.{KeepsOrHasNone}
use Rattle.layout.specs.sealed.Opening.{gate_sector}
use Rattle.ckpt_log.proofs.SealedClosings.{all_closed, first_keeps, first_run, gate_run, second_keeps, third_keeps}
use Rattle.ckpt_log.proofs.sealed.closing.close_in_order.Goals as goal

pub returns-in_err-close_gate-clause-seen : goal.returns-in_err-close_gate-clause-seen
returns-in_err-close_gate-clause-seen g c =
    first_keeps (g.D.Device.disk c.args.device.now).seen c.args.order c.requires.order (g.D.Device.disk c.close_gate.new.device).seen
    c.close_gate.ensures.elsewhere

pub returns-in_err-close_gate-clause-any_moment : goal.returns-in_err-close_gate-clause-any_moment
returns-in_err-close_gate-clause-any_moment g c =
    first_run {at = gate_sector c.args.order.first} {keeps = λ (x : Image). KeepsOrHasNone (g.D.Device.disk c.args.device.now).seen x}
    {old = g.D.Device.disk c.args.device.now} {new = g.D.Device.disk c.close_gate.new.device} c.requires.durable
    (first_keeps (g.D.Device.disk c.args.device.now).seen c.args.order c.requires.order) c.close_gate.ensures.any_moment

pub returns-in_err-close_gate-2-clause-seen : goal.returns-in_err-close_gate-2-clause-seen
returns-in_err-close_gate-2-clause-seen g c =
    second_keeps (g.D.Device.disk c.args.device.now).seen c.args.order c.requires.order (g.D.Device.disk c.close_gate.new.device).seen
    c.close_gate.ensures.elsewhere c.in_ok-close_gate.ensures.closed (g.D.Device.disk c.close_gate-2.new.device).seen
    c.close_gate-2.ensures.elsewhere

pub returns-in_err-close_gate-2-clause-any_moment : goal.returns-in_err-close_gate-2-clause-any_moment
returns-in_err-close_gate-2-clause-any_moment g c =
    gate_run {at = gate_sector c.args.order.second} {keeps = λ (x : Image). KeepsOrHasNone (g.D.Device.disk c.args.device.now).seen x}
    {old = g.D.Device.disk c.args.device.now} {mid = g.D.Device.disk c.close_gate.new.device}
    {new = g.D.Device.disk c.close_gate-2.new.device}
    c.in_ok-close_gate.ensures.durable
    (first_run {at = gate_sector c.args.order.first} {keeps = λ (x : Image). KeepsOrHasNone (g.D.Device.disk c.args.device.now).seen x}
    {old = g.D.Device.disk c.args.device.now} {new = g.D.Device.disk c.close_gate.new.device} c.requires.durable
    (first_keeps (g.D.Device.disk c.args.device.now).seen c.args.order c.requires.order) c.close_gate.ensures.any_moment)
    (second_keeps (g.D.Device.disk c.args.device.now).seen c.args.order c.requires.order (g.D.Device.disk c.close_gate.new.device).seen
    c.close_gate.ensures.elsewhere c.in_ok-close_gate.ensures.closed)
    c.close_gate-2.ensures.any_moment

pub returns-clause-seen : goal.returns-clause-seen
returns-clause-seen g c =
    third_keeps (g.D.Device.disk c.args.device.now).seen c.args.order c.requires.order (g.D.Device.disk c.close_gate.new.device).seen
    c.close_gate.ensures.elsewhere c.in_ok-close_gate.ensures.closed (g.D.Device.disk c.close_gate-2.new.device).seen
    c.close_gate-2.ensures.elsewhere
    c.in_ok-close_gate-2.ensures.closed (g.D.Device.disk c.close_gate-3.new.device).seen c.close_gate-3.ensures.elsewhere

pub returns-clause-closed : goal.returns-clause-closed
returns-clause-closed g c =
    on_ok_weaker c.close_gate-3.result
    (λ closed. all_closed (g.D.Device.disk c.args.device.now).seen c.args.order c.requires.order
    (g.D.Device.disk c.close_gate.new.device).seen
    c.close_gate.ensures.elsewhere c.in_ok-close_gate.ensures.closed (g.D.Device.disk c.close_gate-2.new.device).seen
    c.close_gate-2.ensures.elsewhere
    c.in_ok-close_gate-2.ensures.closed (g.D.Device.disk c.close_gate-3.new.device).seen c.close_gate-3.ensures.elsewhere closed)
    c.close_gate-3.ensures.closed

pub returns-clause-any_moment : goal.returns-clause-any_moment
returns-clause-any_moment g c =
    gate_run {at = gate_sector c.args.order.third} {keeps = λ (x : Image). KeepsOrHasNone (g.D.Device.disk c.args.device.now).seen x}
    {old = g.D.Device.disk c.args.device.now} {mid = g.D.Device.disk c.close_gate-2.new.device}
    {new = g.D.Device.disk c.close_gate-3.new.device}
    c.in_ok-close_gate-2.ensures.durable
    (gate_run {at = gate_sector c.args.order.second} {keeps = λ (x : Image). KeepsOrHasNone (g.D.Device.disk c.args.device.now).seen x}
    {old = g.D.Device.disk c.args.device.now} {mid = g.D.Device.disk c.close_gate.new.device}
    {new = g.D.Device.disk c.close_gate-2.new.device}
    c.in_ok-close_gate.ensures.durable
    (first_run {at = gate_sector c.args.order.first} {keeps = λ (x : Image). KeepsOrHasNone (g.D.Device.disk c.args.device.now).seen x}
    {old = g.D.Device.disk c.args.device.now} {new = g.D.Device.disk c.close_gate.new.device} c.requires.durable
    (first_keeps (g.D.Device.disk c.args.device.now).seen c.args.order c.requires.order) c.close_gate.ensures.any_moment)
    (second_keeps (g.D.Device.disk c.args.device.now).seen c.args.order c.requires.order (g.D.Device.disk c.close_gate.new.device).seen
    c.close_gate.ensures.elsewhere c.in_ok-close_gate.ensures.closed)
    c.close_gate-2.ensures.any_moment)
    (third_keeps (g.D.Device.disk c.args.device.now).seen c.args.order c.requires.order (g.D.Device.disk c.close_gate.new.device).seen
    c.close_gate.ensures.elsewhere c.in_ok-close_gate.ensures.closed (g.D.Device.disk c.close_gate-2.new.device).seen
    c.close_gate-2.ensures.elsewhere
    c.in_ok-close_gate-2.ensures.closed)
    c.close_gate-3.ensures.any_moment
