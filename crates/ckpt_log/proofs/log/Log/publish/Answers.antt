use Rattle.ckpt_log.proofs.Names.{sym, subst, Image, agrees_is, elsewhere_on, elsewhere_same, header_sector, HasNew, Precedes, on_ok_weaker}
use Rattle.ckpt_log.proofs.Commits.{either_elsewhere, either_on, new_on, precedes_on}
use Rattle.ckpt_log.proofs.Runs.{sync_run, commit_run, sync_order, commit_order, preparing_run, publishing_order, publishing_run}
use Rattle.ckpt_log.proofs.log.Log.publish.Goals as goal

pub returns-in_err-sync-clause-any_moment : goal.returns-in_err-sync-clause-any_moment
returns-in_err-sync-clause-any_moment g c = sync_run c.requires.one (g.met.D.Device.only_now c.args.device.now) c.sync.ensures.time
    c.sync.ensures.crash

pub returns-in_err-sync-clause-in_order : goal.returns-in_err-sync-clause-in_order
returns-in_err-sync-clause-in_order g c = sync_order c.args.header (g.met.D.Device.only_now c.args.device.now) c.sync.ensures.time
    c.sync.ensures.crash

pub returns-in_err-prepare-clause-any_moment : goal.returns-in_err-prepare-clause-any_moment
returns-in_err-prepare-clause-any_moment g c =
    let first = sync_run c.requires.one (g.met.D.Device.only_now c.args.device.now) c.sync.ensures.time c.sync.ensures.crash in
    commit_run (g.met.D.Device.seen_left c.args.device.now) c.sync.ensures.seen first
    (preparing_run {old = g.D.Device.disk c.sync.new.self} {new = g.D.Device.disk c.prepare.new.device} c.prepare.ensures.any_moment)

pub returns-in_err-prepare-clause-in_order : goal.returns-in_err-prepare-clause-in_order
returns-in_err-prepare-clause-in_order g c =
    let first = sync_order c.args.header (g.met.D.Device.only_now c.args.device.now) c.sync.ensures.time c.sync.ensures.crash in
    commit_order c.args.header (g.met.D.Device.seen_left c.args.device.now) c.sync.ensures.seen first c.prepare.ensures.in_order

pub open_gate-requires-clause-next : goal.open_gate-requires-clause-next
open_gate-requires-clause-next g c =
    let mid = (g.D.Device.disk c.sync.new.self).seen in
    let next = subst (λ (image : Image). Precedes image c.args.header) (sym
    (agrees_is mid (g.D.Device.disk c.args.device.now).seen c.sync.ensures.seen))
    c.requires.next in
    precedes_on next c.prepare.ensures.keeps

pub returns-clause-committed : goal.returns-clause-committed
returns-clause-committed g c =
    let mid = (g.D.Device.disk c.sync.new.self).seen in
    let new = (g.D.Device.disk c.open_gate.new.device).seen in
    let same = agrees_is mid (g.D.Device.disk c.args.device.now).seen c.sync.ensures.seen in
    on_ok_weaker c.open_gate.result (λ has. subst (λ (image : Image). HasNew c.args.header image new) same
    (new_on c.prepare.ensures.keeps has)) c.open_gate.ensures.committed

pub returns-clause-elsewhere : goal.returns-clause-elsewhere
returns-clause-elsewhere g c =
    let old = (g.D.Device.disk c.args.device.now).seen in
    let mid = (g.D.Device.disk c.sync.new.self).seen in
    let new = (g.D.Device.disk c.open_gate.new.device).seen in
    elsewhere_on (header_sector c.args.header) 2 old mid new (elsewhere_same (header_sector c.args.header) 2 old mid c.sync.ensures.seen)
    (either_elsewhere (either_on c.prepare.ensures.keeps c.open_gate.ensures.seen))

pub returns-clause-any_moment : goal.returns-clause-any_moment
returns-clause-any_moment g c =
    let mid = (g.D.Device.disk c.sync.new.self).seen in
    let first = sync_run c.requires.one (g.met.D.Device.only_now c.args.device.now) c.sync.ensures.time c.sync.ensures.crash in
    commit_run (g.met.D.Device.seen_left c.args.device.now) c.sync.ensures.seen first
    (publishing_run {old = g.D.Device.disk c.sync.new.self} {mid = g.D.Device.disk c.prepare.new.device}
    {new = g.D.Device.disk c.open_gate.new.device}
    c.prepare.ensures.keeps c.prepare.ensures.any_moment c.open_gate.ensures.any_moment)

pub returns-clause-in_order : goal.returns-clause-in_order
returns-clause-in_order g c =
    let first = sync_order c.args.header (g.met.D.Device.only_now c.args.device.now) c.sync.ensures.time c.sync.ensures.crash in
    commit_order c.args.header (g.met.D.Device.seen_left c.args.device.now) c.sync.ensures.seen first
    (publishing_order c.args.header
    (g.D.Device.disk c.sync.new.self).seen {old = g.D.Device.disk c.sync.new.self} {mid = g.D.Device.disk c.prepare.new.device}
    {new = g.D.Device.disk
    c.open_gate.new.device}
    c.prepare.ensures.in_order c.open_gate.ensures.in_order)
