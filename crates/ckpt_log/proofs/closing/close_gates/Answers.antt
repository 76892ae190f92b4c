use Rattle.ckpt_log.proofs.Names.{rules, subst, Image, Agrees, Peeks, KeepsOrHasNone, agrees_is}
use Rattle.ckpt_log.proofs.Closings.{closing_run, keeps_same, peek_run}
use Rattle.ckpt_log.proofs.closing.close_gates.Goals as goal

pub returns-in_err-sync-clause-seen : goal.returns-in_err-sync-clause-seen
returns-in_err-sync-clause-seen g c = keeps_same c.sync.ensures.seen

pub returns-in_err-sync-clause-any_moment : goal.returns-in_err-sync-clause-any_moment
returns-in_err-sync-clause-any_moment g c =
    let peeks : Peeks (g.D.Device.disk c.args.device.now) (g.D.Device.disk c.sync.new.self) = search rules in
    peek_run {old = g.D.Device.disk c.args.device.now} {new = g.D.Device.disk c.sync.new.self} peeks

pub returns-in_err-slot-clause-seen : goal.returns-in_err-slot-clause-seen
returns-in_err-slot-clause-seen g c =
    let same : Agrees (g.D.Device.disk c.lesser_slot.new.device).seen (g.D.Device.disk c.args.device.now).seen = search rules in
    keeps_same same

pub returns-in_err-slot-clause-any_moment : goal.returns-in_err-slot-clause-any_moment
returns-in_err-slot-clause-any_moment g c =
    let peeks : Peeks (g.D.Device.disk c.args.device.now) (g.D.Device.disk c.lesser_slot.new.device) = search rules in
    peek_run {old = g.D.Device.disk c.args.device.now} {new = g.D.Device.disk c.lesser_slot.new.device} peeks

pub close_in_turn-requires-clause-lesser : goal.close_in_turn-requires-clause-lesser
close_in_turn-requires-clause-lesser g c = search (rules, agrees_is)

pub close_in_turn-requires-clause-durable : goal.close_in_turn-requires-clause-durable
close_in_turn-requires-clause-durable g c = search (rules, agrees_is)

pub returns-clause-seen : goal.returns-clause-seen
returns-clause-seen g c =
    let mid = (g.D.Device.disk c.lesser_slot.new.device).seen in
    let old = (g.D.Device.disk c.args.device.now).seen in
    let same : Agrees mid old = search rules in
    subst (λ (image : Image). KeepsOrHasNone image (g.D.Device.disk c.close_in_turn.new.device).seen) (agrees_is mid old same)
    c.close_in_turn.ensures.seen

pub returns-clause-any_moment : goal.returns-clause-any_moment
returns-clause-any_moment g c =
    let peeks : Peeks (g.D.Device.disk c.args.device.now) (g.D.Device.disk c.lesser_slot.new.device) = search rules in
    let same : Agrees (g.D.Device.disk c.lesser_slot.new.device).seen (g.D.Device.disk c.args.device.now).seen = search rules in
    closing_run {old = g.D.Device.disk c.args.device.now} {mid = g.D.Device.disk c.lesser_slot.new.device}
    {new = g.D.Device.disk c.close_in_turn.new.device}
    (g.met.D.Device.seen_left c.args.device.now) same
    (peek_run {old = g.D.Device.disk c.args.device.now} {new = g.D.Device.disk c.lesser_slot.new.device} peeks)
    c.close_in_turn.ensures.any_moment
