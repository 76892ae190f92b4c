use Rattle.image_writer.proofs.Names.{length, refl, directory_length, directory_sector, frames_in, on_ok_weaker}
use Rattle.image_writer.proofs.ClosedGates.{behind_all, leaves_shut, shut_on}
use Rattle.image_writer.proofs.SlotFrames.{directory_behind, log_in_half, slots_in_half, slots_stay}
use Rattle.image_writer.proofs.slots.write_log.Goals as goal

pub returns-clause-slots : goal.returns-clause-slots
returns-clause-slots g c =
    let change = rw c.requires.same at c.store_directory.ensures.touches.elsewhere in
    on_ok_weaker c.store_directory.result
    (λ written. slots_stay c.args.home.now c.args.generation (directory_sector c.args.home.now c.args.generation)
    (directory_length c.args.home.now.version (length c.args.entries.now))
    c.args.entries.now (frames_in c.args.headers.now c.args.contents.now)
    (g.D.Device.disk c.write_slots.new.device).seen (g.D.Device.disk c.store_directory.new.device).seen c.requires.plan
    c.requires.directory refl change c.in_ok-write_slots.ensures.slots)
    c.store_directory.ensures.written

pub returns-in_err-write_slots-clause-elsewhere : goal.returns-in_err-write_slots-clause-elsewhere
returns-in_err-write_slots-clause-elsewhere g c = slots_in_half c.args.home.now c.args.generation c.in_err-write_slots.ensures.elsewhere

pub returns-clause-elsewhere : goal.returns-clause-elsewhere
returns-clause-elsewhere g c =
    log_in_half c.args.home.now c.args.generation (length c.args.entries.now) c.requires.few c.in_ok-write_slots.ensures.elsewhere
    (rw c.requires.same at c.store_directory.ensures.touches.elsewhere)

pub returns-clause-shut : goal.returns-clause-shut
returns-clause-shut g c =
    let p = c.args.home.now in
    let at = directory_sector p c.args.generation in
    let n = directory_length p.version (length c.args.entries.now) in
    let touches = rw c.requires.same at c.store_directory.ensures.touches in
    leaves_shut p at n (g.D.Device.disk c.write_slots.new.device) (g.D.Device.disk c.store_directory.new.device)
    (behind_all p.version at n (directory_behind p c.args.generation c.requires.plan)) c.write_slots.ensures.shut touches.crash

pub returns-clause-any_moment : goal.returns-clause-any_moment
returns-clause-any_moment g c =
    let p = c.args.home.now in
    let at = directory_sector p c.args.generation in
    let n = directory_length p.version (length c.args.entries.now) in
    let touches = rw c.requires.same at c.store_directory.ensures.touches in
    shut_on p at n {old = g.D.Device.disk c.args.device.now} {mid = g.D.Device.disk c.write_slots.new.device}
    {new = g.D.Device.disk c.store_directory.new.device} c.write_slots.ensures.any_moment
    (behind_all p.version at n (directory_behind p c.args.generation c.requires.plan)) c.write_slots.ensures.shut touches.any_moment
