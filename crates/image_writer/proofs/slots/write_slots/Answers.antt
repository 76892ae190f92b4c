use Rattle.image_writer.proofs.Names.{rules, length, entry_at, frames_in, place_length, slot_sector}
use Rattle.std.proofs.Common.{◌≡◌, ◌<◌, ◌∙◌}
use Rattle.image_writer.proofs.ClosedGates.{behind_all, leaves_shut, shut_on}
use Rattle.image_writer.proofs.SlotFrames.{one_more_slot, slot_behind, stays_in_half}
use Rattle.image_writer.proofs.slots.write_slots.Goals as goal

pub returns-in_err-_seal-clause-shut : goal.returns-in_err-_seal-clause-shut
returns-in_err-_seal-clause-shut g c =
    let p = c.args.home.now in
    let writes = rw (c.slot_sector-at.ensures.value, c.requires.same) at c.write_shared.ensures.writes in
    let e = entry_at c.args.entries.now c.loop-index.index in
    let at = slot_sector p c.args.generation e.slot in
    leaves_shut p at (place_length p e.object) (g.D.Device.disk c.loop-index.device) (g.D.Device.disk c.write_shared.new.device)
    (behind_all p.version at (place_length p e.object) (slot_behind p c.args.generation e.slot c.requires.plan))
    c.loop-index.invariant.4 writes.crash

pub returns-in_err-_seal-clause-any_moment : goal.returns-in_err-_seal-clause-any_moment
returns-in_err-_seal-clause-any_moment g c =
    let p = c.args.home.now in
    let writes = rw (c.slot_sector-at.ensures.value, c.requires.same) at c.write_shared.ensures.writes in
    let e = entry_at c.args.entries.now c.loop-index.index in
    let at = slot_sector p c.args.generation e.slot in
    shut_on p at (place_length p e.object) {old = g.D.Device.disk c.args.device.now} {mid = g.D.Device.disk c.loop-index.device}
    {new = g.D.Device.disk c.write_shared.new.device} c.loop-index.invariant.5
    (behind_all p.version at (place_length p e.object) (slot_behind p c.args.generation e.slot c.requires.plan))
    c.loop-index.invariant.4 writes.any_moment

pub loop-index-preserved : goal.loop-index-preserved
loop-index-preserved g c =
    let p = c.args.home.now in
    let es = c.args.entries.now in
    let i = c.loop-index.index in
    let e = entry_at es i in
    let lt : i < length es = search rules in
    let at = slot_sector p c.args.generation e.slot in
    let beside = behind_all p.version at (place_length p e.object) (slot_behind p c.args.generation e.slot c.requires.plan) in
    let old = g.D.Device.disk c.args.device.now in
    let mid = g.D.Device.disk c.loop-index.device in
    let new = g.D.Device.disk c.write_shared.new.device in
    let writes = rw (c.slot_sector-at.ensures.value, c.requires.same) at c.write_shared.ensures.writes in
    let there = rw (c.slot_sector-at.ensures.value, c.requires.same) at c.in_ok-_seal.ensures.written in
    let same : new.failures ≡ mid.failures = search rules in (
      one_more_slot p c.args.generation es i mid.seen new.seen c.requires.directory lt writes.elsewhere
          (frames_in c.args.headers.now c.args.contents.now) c.requires.plan c.loop-index.invariant.0 there,
      stays_in_half p c.args.generation es i mid.seen new.seen c.requires.directory lt writes.elsewhere old.seen
          c.loop-index.invariant.1,
      writes.size ∙ c.loop-index.invariant.2,
      same ∙ c.loop-index.invariant.3,
      leaves_shut p at (place_length p e.object) mid new beside c.loop-index.invariant.4 writes.crash,
      shut_on p at (place_length p e.object) {old = old} {mid = mid} {new = new} c.loop-index.invariant.5 beside
          c.loop-index.invariant.4 writes.any_moment,
    )
