use Rattle.image_writer.proofs.Names.{AreHomes, Elsewhere, IsShut, LeavesOnly, LeavesShut, frames_in, home_units, root_of, row, true}
use Rattle.std.proofs.Common.{◌≡◌, ◌-◌}
use Rattle.image_writer.proofs.homes.write_homes.Given as goal

abbrev pub invariant-loop-number : goal.invariant-loop-number
invariant-loop-number g l =
    AreHomes l.home (frames_in l.headers l.contents) l.number (g.D.Device.disk l.device).seen
    × Elsewhere (row l.home.version).first_home (l.home.total - (row l.home.version).first_home) (g.D.Device.disk l.fn.device).seen
    (g.D.Device.disk l.device).seen
    × ((g.D.Device.disk l.device).sectors ≡ (g.D.Device.disk l.fn.device).sectors)
    × ((g.D.Device.disk l.device).failures ≡ (g.D.Device.disk l.fn.device).failures)
    × LeavesShut l.home (g.D.Device.disk l.device)
    × LeavesOnly (g.D.Device.disk l.fn.device) (g.D.Device.disk l.device) (λ c. IsShut l.home c)
    × ((row l.home.version).sealed ≡ true → l.root ≡ root_of (home_units (g.D.Device.disk l.device).seen l.home l.number))
