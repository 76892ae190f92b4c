use Rattle.home_ranges.proofs.Names.{refl, on_ok_weaker}
use Rattle.home_ranges.proofs.Places.{home_held}
use Rattle.home_ranges.proofs.home.Home.write_frame.Goals as goal

pub returns-clause-written : goal.returns-clause-written
returns-clause-written g c =
    on_ok_weaker c.write_sectors.result
    (λ held. home_held (g.D.Device.disk c.write_sectors.new.device).seen c.place-at.ensures.plan c.requires.object c.place-at.ensures.value
    c.shape-shape.ensures.value
    refl held) c.write_sectors.ensures.written
