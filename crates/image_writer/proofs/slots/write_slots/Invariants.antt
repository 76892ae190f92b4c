use Rattle.image_writer.proofs.Names.{AreInSlots, Elsewhere, IsShut, LeavesOnly, LeavesShut, half_sector, frames_in}
use Rattle.std.proofs.Common.{◌≡◌, ◌*◌}
use Rattle.image_writer.proofs.slots.write_slots.Given as goal

abbrev pub invariant-loop-index : goal.invariant-loop-index
invariant-loop-index g l =
    AreInSlots l.home l.generation l.entries (frames_in l.headers l.contents) l.index (g.D.Device.disk l.device).seen
    × Elsewhere (half_sector l.home l.generation) (9 * l.home.geometry.log) (g.D.Device.disk l.fn.device).seen
    (g.D.Device.disk l.device).seen
    × ((g.D.Device.disk l.device).sectors ≡ (g.D.Device.disk l.fn.device).sectors)
    × ((g.D.Device.disk l.device).failures ≡ (g.D.Device.disk l.fn.device).failures)
    × LeavesShut l.home (g.D.Device.disk l.device)
    × LeavesOnly (g.D.Device.disk l.fn.device) (g.D.Device.disk l.device) (λ c. IsShut l.home c)
