use Rattle.std.proofs.Common.{rules, subst, sym}
use Rattle.std.proofs.lemmas.Result.{on_ok_weaker}
use Rattle.device.specs.Calls.{Agrees}
use Rattle.device.specs.Disk.{Image}
use Rattle.device.specs.Moments.{Peeks}
use Rattle.device.proofs.Images.{agrees_is}
use Rattle.ckpt_log.specs.sealed.Closing.{IsOrderOf, KeepsOrHasNone}
use Rattle.ckpt_log.proofs.SealedClosings.{closing_run, keeps_same, none_committed, peek_run}
use Rattle.ckpt_log.proofs.sealed.closing.close_gates.Goals as goal

pub returns-in_err-sync-clause-seen : goal.returns-in_err-sync-clause-seen
returns-in_err-sync-clause-seen g c = keeps_same c.sync.ensures.seen

pub returns-in_err-sync-clause-any_moment : goal.returns-in_err-sync-clause-any_moment
returns-in_err-sync-clause-any_moment g c =
    let peeks : Peeks (g.D.Device.disk c.args.device.now) (g.D.Device.disk c.sync.new.self) = search rules in
    peek_run {old = g.D.Device.disk c.args.device.now} {new = g.D.Device.disk c.sync.new.self} peeks

pub returns-in_err-order-clause-seen : goal.returns-in_err-order-clause-seen
returns-in_err-order-clause-seen g c =
    let same : Agrees (g.D.Device.disk c.read_order.new.device).seen (g.D.Device.disk c.args.device.now).seen = search rules in
    keeps_same same

pub returns-in_err-order-clause-any_moment : goal.returns-in_err-order-clause-any_moment
returns-in_err-order-clause-any_moment g c =
    let peeks : Peeks (g.D.Device.disk c.args.device.now) (g.D.Device.disk c.read_order.new.device) = search rules in
    peek_run {old = g.D.Device.disk c.args.device.now} {new = g.D.Device.disk c.read_order.new.device} peeks

pub close_in_order-requires-clause-order : goal.close_in_order-requires-clause-order
close_in_order-requires-clause-order g c =
    subst (λ (image : Image). IsOrderOf image c.in_ok-order.order)
    (sym (agrees_is (g.D.Device.disk c.read_order.new.device).seen (g.D.Device.disk c.sync.new.self).seen c.in_ok-order.ensures.reads.seen))
    c.in_ok-order.ensures.order

pub close_in_order-requires-clause-durable : goal.close_in_order-requires-clause-durable
close_in_order-requires-clause-durable g c = search (rules, agrees_is)

pub returns-clause-none : goal.returns-clause-none
returns-clause-none g c =
    on_ok_weaker c.close_in_order.result (λ closed. none_committed (g.D.Device.disk c.close_in_order.new.device).seen closed)
    c.close_in_order.ensures.closed

pub returns-clause-seen : goal.returns-clause-seen
returns-clause-seen g c =
    let mid = (g.D.Device.disk c.read_order.new.device).seen in
    let old = (g.D.Device.disk c.args.device.now).seen in
    let same : Agrees mid old = search rules in
    subst (λ (image : Image). KeepsOrHasNone image (g.D.Device.disk c.close_in_order.new.device).seen) (agrees_is mid old same)
    c.close_in_order.ensures.seen

pub returns-clause-any_moment : goal.returns-clause-any_moment
returns-clause-any_moment g c =
    let peeks : Peeks (g.D.Device.disk c.args.device.now) (g.D.Device.disk c.read_order.new.device) = search rules in
    let same : Agrees (g.D.Device.disk c.read_order.new.device).seen (g.D.Device.disk c.args.device.now).seen = search rules in
    closing_run {old = g.D.Device.disk c.args.device.now} {mid = g.D.Device.disk c.read_order.new.device}
    {new = g.D.Device.disk c.close_in_order.new.device}
    (g.met.D.Device.seen_left c.args.device.now) same
    (peek_run {old = g.D.Device.disk c.args.device.now} {new = g.D.Device.disk c.read_order.new.device} peeks)
    c.close_in_order.ensures.any_moment
